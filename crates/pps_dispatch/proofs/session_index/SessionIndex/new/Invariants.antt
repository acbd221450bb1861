use Rattle.pps_dispatch.specs.Search.{Knows}
use Rattle.pps_dispatch.proofs.session_index.SessionIndex.new.Given as goal

abbrev pub invariant-loop-number : goal.invariant-loop-number
invariant-loop-number l = Knows l.numbers l.sessions l.number
