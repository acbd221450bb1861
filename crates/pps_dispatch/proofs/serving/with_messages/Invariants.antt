use Rattle.pps_dispatch.proofs.Exchanging.{Exchanged}
use Rattle.pps_dispatch.proofs.serving.with_messages.Given as goal

abbrev pub invariant-loop-number : goal.invariant-loop-number
invariant-loop-number l = Exchanged l.initial.answered.items l.initial.sessions.items l.answered.items l.sessions.items l.number
