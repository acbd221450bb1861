use Rattle.std.proofs.Common.{◌≡◌, ◌∙◌, sym, ap, arith, Some, None}
use Rattle.std.specs.Map.{lookup}
use Rattle.indexmap.specs.IndexMap.{insert_entry}
use Rattle.pps_types.specs.Bytes.{same}
use Rattle.pps_types.specs.History.{text_length}
use Rattle.object_state.specs.Entries.{attributes_of}
use Rattle.object_state.proofs.Entries.{attributes-insert, insert-new, insert-old, line_le}
use Rattle.object_state.proofs.changes.set.Goals as goal

pub returns-in-None-clause-attributes : goal.returns-in-None-clause-attributes
returns-in-None-clause-attributes c =
    ap attributes_of c.insert.ensures.entries ∙ attributes-insert c.args.name c.args.content c.args.map.now.entries

pub returns-in-None-clause-kept : goal.returns-in-None-clause-kept
returns-in-None-clause-kept c =
    let none : lookup (same c.args.name) c.args.map.now.entries ≡ None = sym c.insert.ensures.old ∙ c.in-None.is in
    let entries : text_length (attributes_of c.insert.new.self.entries) ≡ text_length (attributes_of (insert_entry same c.args.map.now.entries c.args.name c.args.content)) = ap (λ es. text_length (attributes_of es)) c.insert.ensures.entries in
    omega (arith, insert-new c.args.name c.args.map.now.entries c.args.content none, entries, ap (λ n. n) c.len-name_len.ensures)

pub line_len-requires : goal.line_len-requires
line_len-requires c =
    let some : lookup (same c.args.name) c.args.map.now.entries ≡ Some c.in-Some.replaced = sym c.insert.ensures.old ∙ c.in-Some.is in
    omega (arith, line_le c.args.name c.args.map.now.entries c.in-Some.replaced some)

pub overflow_sub-result : goal.overflow_sub-result
overflow_sub-result c =
    let some : lookup (same c.args.name) c.args.map.now.entries ≡ Some c.in-Some.replaced = sym c.insert.ensures.old ∙ c.in-Some.is in
    omega (arith, line_le c.args.name c.args.map.now.entries c.in-Some.replaced some)

pub returns-in-Some-clause-attributes : goal.returns-in-Some-clause-attributes
returns-in-Some-clause-attributes c =
    ap attributes_of c.insert.ensures.entries ∙ attributes-insert c.args.name c.args.content c.args.map.now.entries

pub returns-in-Some-clause-kept : goal.returns-in-Some-clause-kept
returns-in-Some-clause-kept c =
    let some : lookup (same c.args.name) c.args.map.now.entries ≡ Some c.in-Some.replaced = sym c.insert.ensures.old ∙ c.in-Some.is in
    let entries : text_length (attributes_of c.insert.new.self.entries) ≡ text_length (attributes_of (insert_entry same c.args.map.now.entries c.args.name c.args.content)) = ap (λ es. text_length (attributes_of es)) c.insert.ensures.entries in
    omega (arith, insert-old c.args.name c.args.map.now.entries c.args.content c.in-Some.replaced some, entries)
