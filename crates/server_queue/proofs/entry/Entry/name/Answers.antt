use Rattle.std.proofs.Common.{◌≡◌, ◌∙◌, ◌+◌, ◌≤◌, Some, sym, ap, length, arith}
use Rattle.std.specs.Option.{option_copied}
use Rattle.pps_types.specs.Text.{print_lines}
use Rattle.server_queue.proofs.Labels.{lines-fit}
use Rattle.server_queue.proofs.entry.Entry.name.Goals as goal

pub unreachable-requires : goal.unreachable-requires
unreachable-requires c =
    let told = c.deref-told.result.now in
    let fit : length (print_lines c.in-Some.lines.now) + 2 ≤ length told.text =
    lines-fit told.text told.made.kind c.in-Some.lines.now told.labelled (sym c.object_lines.ensures ∙ ap option_copied c.in-Some.is) in
    let same : length c.as_slice-text.result.now ≡ length told.text = ap (λ t. length t) c.as_slice-text.ensures in
    absurd (omega (arith, c.in_default-lines_len.ensures.none))

pub name_between-requires : goal.name_between-requires
name_between-requires c =
    let told = c.deref-told.result.now in
    let fit : length (print_lines c.in-Some.lines.now) + 2 ≤ length told.text =
    lines-fit told.text told.made.kind c.in-Some.lines.now told.labelled (sym c.object_lines.ensures ∙ ap option_copied c.in-Some.is) in
    let same : length c.as_slice-text.result.now ≡ length told.text = ap (λ t. length t) c.as_slice-text.ensures in
    omega (arith, c.in-Some-lines_len.ensures.some)
