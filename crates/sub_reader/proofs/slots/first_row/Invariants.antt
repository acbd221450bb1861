use Rattle.std.proofs.Common.{◌≡◌, length}
use Rattle.sub_reader.specs.Rows.{rows_in}
use Rattle.sub_reader.proofs.slots.first_row.Given as goal

-- only gaps were passed over
abbrev pub invariant-loop-slot : goal.invariant-loop-slot
invariant-loop-slot g l = rows_in l.slots ≡ rows_in l.rest

abbrev pub decreases-loop-slot : goal.decreases-loop-slot
decreases-loop-slot g l = length l.rest
