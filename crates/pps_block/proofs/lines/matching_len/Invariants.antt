use Rattle.std.proofs.Common.{◌≡◌, ◌+◌, drop, length}
use Rattle.std.specs.Option.{option_copied}
use Rattle.pps_block.specs.Matching.{print_matching}
use Rattle.pps_block.proofs.lines.matching_len.Given as goal

abbrev pub invariant-lines : goal.invariant-lines
invariant-lines l = l.total + length (print_matching (option_copied l.filter) (drop l.line-index l.lines)) ≡ length (print_matching (option_copied l.filter) l.lines)
