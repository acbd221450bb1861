use Rattle.std.proofs.Common.{◌≡◌, length}
use Rattle.number_table.specs.Index.{entries_in, slots_in}
use Rattle.number_table.proofs.index.first_value.Given as goal

-- only numbers without a value were passed over
abbrev pub invariant-loop-place : goal.invariant-loop-place
invariant-loop-place g l = entries_in (slots_in l.values l.index) ≡ entries_in (slots_in l.values l.rest)

abbrev pub decreases-loop-place : goal.decreases-loop-place
decreases-loop-place g l = length l.rest
