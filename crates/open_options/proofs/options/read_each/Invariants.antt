use Rattle.std.proofs.Common.{◌≡◌, ◌+◌, length, false}
use Rattle.std.specs.Option.{option_copied, option_map_or}
use Rattle.pps_types.specs.Bytes.{plain_pieces}
use Rattle.pps_types.specs.OpenText as meant
use Rattle.pps_filter.specs.Pieces.{pieces_left}
use Rattle.open_options.specs.Seen.{options_seen}
use Rattle.open_options.proofs.options.read_each.Given as goal

abbrev pub invariant-loop-rest : goal.invariant-loop-rest
invariant-loop-rest l = meant.options_from (options_seen l.options) (pieces_left 44 (option_copied l.rest)) ≡ meant.options_from meant.no_options (plain_pieces false 44 l.text)

abbrev pub decreases-loop-rest : goal.decreases-loop-rest
decreases-loop-rest l = option_map_or (λ text. 1 + length text) (option_copied l.rest) 0
