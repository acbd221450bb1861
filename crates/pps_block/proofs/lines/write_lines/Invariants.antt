use Rattle.std.proofs.Common.{◌≡◌, ◌+◌, ◌++◌, drop, length, take}
use Rattle.pps_types.specs.Text.{print_lines}
use Rattle.pps_block.proofs.lines.write_lines.Given as goal

-- what is written so far, and the rest of the lines
abbrev pub invariant-lines : goal.invariant-lines
invariant-lines l =
    (take l.at l.out ++ print_lines (drop l.line-index l.lines) ≡ take l.fn.start l.fn.out ++ print_lines l.lines)
    × (l.at + length (print_lines (drop l.line-index l.lines)) ≡ l.fn.start + length (print_lines l.lines))
