use Rattle.std.proofs.Common.{◌≡◌, length}
use Rattle.std.specs.Prelude.{filter}
use Rattle.std.specs.List.{list_any}
use Rattle.std.specs.Option.{option_copied}
use Rattle.pps_types.specs.Filter.{matches}
use Rattle.pps_block.proofs.lines.from_first_match.Given as goal

abbrev pub invariant-rest : goal.invariant-rest
invariant-rest l =
    (filter (matches (option_copied l.filter)) l.rest ≡ filter (matches (option_copied l.filter)) l.lines)
    × (list_any (matches (option_copied l.filter)) l.rest ≡ list_any (matches (option_copied l.filter)) l.lines)

abbrev pub decreases-rest : goal.decreases-rest
decreases-rest l = length l.rest
