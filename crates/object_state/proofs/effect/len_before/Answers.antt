use Rattle.std.proofs.Common.{◌≡◌, ◌∙◌, sym, ap, arith, nat_eq, Some}
use Rattle.std.specs.Map.{lookup}
use Rattle.std.specs.Option.{option_copied}
use lib.Pointwise.{pointwise}
use Rattle.object_state.specs.Effect.{printed_length}
use Rattle.object_state.specs.Entries.{line_length}
use Rattle.object_state.proofs.Entries.{named-none, named-some, line_le}
use Rattle.object_state.proofs.Printing.{printed-content}
use Rattle.object_state.proofs.effect.len_before.Goals as goal

pub returns-in-None : goal.returns-in-None
returns-in-None c = sym (named-none printed_length c.args.name.now c.args.map.now.entries (sym c.get.ensures.value ∙ ap option_copied c.in-None.is))

pub line_len-requires : goal.line_len-requires
line_len-requires c =
    let some : lookup (pointwise nat_eq c.args.name.now) c.args.map.now.entries ≡ Some c.in-Some.content.now = sym c.get.ensures.value ∙ ap option_copied c.in-Some.is in
    rw c.len.ensures (omega (arith, line_le c.args.name.now c.args.map.now.entries c.in-Some.content.now some))

pub returns-in-Some : goal.returns-in-Some
returns-in-Some c =
    let some : lookup (pointwise nat_eq c.args.name.now) c.args.map.now.entries ≡ Some c.in-Some.content.now = sym c.get.ensures.value ∙ ap option_copied c.in-Some.is in
    ap (λ n. Some n) (c.line_len.ensures ∙ ap (λ n. line_length n c.in-Some.content.now) c.len.ensures ∙ sym (printed-content c.args.name.now c.in-Some.content.now))
    ∙ sym (named-some printed_length c.args.name.now c.args.map.now.entries c.in-Some.content.now some)
