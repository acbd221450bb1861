use Rattle.std.proofs.Common.{◌≡◌, ◌+◌, ◌≤◌, ◌++◌, drop, length}
use Rattle.std.specs.Prelude.{vec_len, vec_capacity}
use Rattle.pps_types.specs.Text.{print_lines}
use Rattle.pps_block.proofs.lines.push_lines.Given as goal

abbrev pub invariant-lines : goal.invariant-lines
invariant-lines l =
    (l.out.items ++ print_lines (drop l.line-index l.lines) ≡ l.fn.out.items ++ print_lines l.lines)
    × (vec_len l.out + length (print_lines (drop l.line-index l.lines)) ≤ vec_capacity l.out)
    × (vec_capacity l.fn.out ≤ vec_capacity l.out)
