use Rattle.std.proofs.Common.{◌≡◌, ◌∙◌, sym, ap, arith, nat_eq, Some, None}
use Rattle.std.specs.Map.{lookup, remove_entry}
use lib.Pointwise.{pointwise}
use Rattle.pps_types.specs.History.{text_length}
use Rattle.object_state.specs.Entries.{attributes_of}
use Rattle.object_state.proofs.Entries.{attributes-remove, remove-none, remove-some, line_le}
use Rattle.object_state.proofs.changes.delete.Goals as goal

pub returns-in-None-clause-attributes : goal.returns-in-None-clause-attributes
returns-in-None-clause-attributes c =
    ap attributes_of c.remove.ensures.entries ∙ attributes-remove c.args.name.now c.args.map.now.entries c.len-len.ensures.names

pub returns-in-None-clause-kept : goal.returns-in-None-clause-kept
returns-in-None-clause-kept c =
    let none : lookup (pointwise nat_eq c.args.name.now) c.args.map.now.entries ≡ None = sym c.remove.ensures.value ∙ c.in-None.is in
    let entries : text_length (attributes_of c.remove.new.self.entries) ≡ text_length (attributes_of (remove_entry (pointwise nat_eq c.args.name.now) c.args.map.now.entries)) = ap (λ es. text_length (attributes_of es)) c.remove.ensures.entries in
    omega (arith, remove-none c.args.name.now c.args.map.now.entries c.len-len.ensures.names none)

pub line_len-requires : goal.line_len-requires
line_len-requires c =
    let some : lookup (pointwise nat_eq c.args.name.now) c.args.map.now.entries ≡ Some c.in-Some.deleted = sym c.remove.ensures.value ∙ c.in-Some.is in
    rw c.len.ensures (omega (arith, line_le c.args.name.now c.args.map.now.entries c.in-Some.deleted some))

pub overflow_sub-result : goal.overflow_sub-result
overflow_sub-result c =
    let some : lookup (pointwise nat_eq c.args.name.now) c.args.map.now.entries ≡ Some c.in-Some.deleted = sym c.remove.ensures.value ∙ c.in-Some.is in
    omega (arith, line_le c.args.name.now c.args.map.now.entries c.in-Some.deleted some)

pub returns-in-Some-clause-attributes : goal.returns-in-Some-clause-attributes
returns-in-Some-clause-attributes c =
    ap attributes_of c.remove.ensures.entries ∙ attributes-remove c.args.name.now c.args.map.now.entries c.len-len.ensures.names

pub returns-in-Some-clause-kept : goal.returns-in-Some-clause-kept
returns-in-Some-clause-kept c =
    let some : lookup (pointwise nat_eq c.args.name.now) c.args.map.now.entries ≡ Some c.in-Some.deleted = sym c.remove.ensures.value ∙ c.in-Some.is in
    let entries : text_length (attributes_of c.remove.new.self.entries) ≡ text_length (attributes_of (remove_entry (pointwise nat_eq c.args.name.now) c.args.map.now.entries)) = ap (λ es. text_length (attributes_of es)) c.remove.ensures.entries in
    omega (arith, remove-some c.args.name.now c.args.map.now.entries c.len-len.ensures.names c.in-Some.deleted some)
