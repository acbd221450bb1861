use Rattle.std.proofs.Common.{◌≡◌, ◌+◌, ◌≤◌, ◌++◌, drop, length}
use Rattle.std.specs.Prelude.{vec_len, vec_capacity}
use Rattle.std.specs.Option.{option_copied}
use Rattle.pps_block.specs.Matching.{print_matching}
use Rattle.pps_block.proofs.lines.push_matching.Given as goal

abbrev pub invariant-lines : goal.invariant-lines
invariant-lines l =
    (l.out.items ++ print_matching (option_copied l.filter) (drop l.line-index l.lines) ≡ l.fn.out.items ++ print_matching (option_copied l.filter) l.lines)
    × (vec_len l.out + length (print_matching (option_copied l.filter) (drop l.line-index l.lines)) ≤ vec_capacity l.out)
    × (vec_capacity l.fn.out ≤ vec_capacity l.out)
