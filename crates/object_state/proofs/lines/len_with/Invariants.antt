use Rattle.std.proofs.Common.{◌≡◌, ◌+◌, drop, length}
use Rattle.pps_types.specs.Text.{print_lines}
use Rattle.object_state.proofs.lines.len_with.Given as goal

abbrev pub invariant-lines : goal.invariant-lines
invariant-lines l = l.total + length (print_lines (drop l.line-index l.lines)) ≡ l.text_len + length (print_lines l.lines)
