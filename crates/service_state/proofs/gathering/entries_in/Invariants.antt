use Rattle.std.proofs.Common.{◌≡◌, ◌++◌, drop}
use Rattle.service_state.specs.Beginning.{entries_in}
use Rattle.service_state.proofs.gathering.entries_in.Given as goal

-- what is gathered, and what is still to come
abbrev pub invariant-records : goal.invariant-records
invariant-records l = l.entries.items ++ entries_in (drop l.each-index l.beginning) ≡ entries_in l.beginning
