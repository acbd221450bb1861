use Rattle.std.proofs.Common.{◌≡◌, ◌+◌, drop, length}
use Rattle.pps_types.specs.Text.{print_lines}
use Rattle.pps_block.proofs.lines.lines_len.Given as goal

abbrev pub invariant-lines : goal.invariant-lines
invariant-lines l = l.total + length (print_lines (drop l.line-index l.lines)) ≡ length (print_lines l.lines)
