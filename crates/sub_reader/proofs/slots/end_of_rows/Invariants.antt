use Rattle.std.proofs.Common.{◌≡◌, ◌≤◌, length, take}
use Rattle.sub_reader.specs.Rows.{rows_in}
use Rattle.sub_reader.proofs.slots.end_of_rows.Given as goal

-- only gaps were passed over
abbrev pub invariant-gaps : goal.invariant-gaps
invariant-gaps g l = record { within : l.end ≤ length l.slots; rows : rows_in (take l.end l.slots) ≡ rows_in l.slots }

abbrev pub decreases-gaps : goal.decreases-gaps
decreases-gaps g l = l.end
