use Rattle.pps_dispatch.specs.Search.{AreFound}
use Rattle.pps_dispatch.proofs.history.are_all.Given as goal

abbrev pub invariant-loop-number : goal.invariant-loop-number
invariant-loop-number l = AreFound l.asked l.answered l.found l.number
