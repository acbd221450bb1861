use Rattle.std.proofs.Common.{◌≡◌, ◌+◌, ◌++◌, drop, length, take}
use Rattle.std.specs.Option.{option_copied}
use Rattle.pps_block.specs.Matching.{print_matching}
use Rattle.pps_block.proofs.lines.write_matching.Given as goal

-- what is written so far, and the matching lines of the rest
abbrev pub invariant-lines : goal.invariant-lines
invariant-lines l =
    (take l.at l.out ++ print_matching (option_copied l.filter) (drop l.line-index l.lines) ≡ take l.fn.start l.fn.out ++ print_matching (option_copied l.filter) l.lines)
    × (l.at + length (print_matching (option_copied l.filter) (drop l.line-index l.lines)) ≡ l.fn.start + length (print_matching (option_copied l.filter) l.lines))
