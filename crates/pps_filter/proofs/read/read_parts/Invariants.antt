use Rattle.std.proofs.Common.{◌≡◌, ◌+◌, length}
use Rattle.std.specs.Option.{option_copied, option_map_or}
use Rattle.pps_types.specs.Bytes.{all_some}
use Rattle.pps_types.specs.Filter as meant
use Rattle.pps_filter.specs.Pieces.{pieces_left}
use Rattle.pps_filter.specs.Seen.{parts_seen}
use Rattle.pps_filter.proofs.Before.{before}
use Rattle.pps_filter.proofs.read.read_parts.Given as goal

abbrev pub invariant-loop-rest : goal.invariant-loop-rest
invariant-loop-rest l = before (parts_seen l.parts.items) (all_some meant.part_of (pieces_left 43 (option_copied l.rest))) ≡ meant.parts_of l.bytes

abbrev pub decreases-loop-rest : goal.decreases-loop-rest
decreases-loop-rest l = option_map_or (λ text. 1 + length text) (option_copied l.rest) 0
