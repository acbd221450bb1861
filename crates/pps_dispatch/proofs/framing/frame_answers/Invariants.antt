use Rattle.pps_dispatch.proofs.FramesMade.{Framed}
use Rattle.pps_dispatch.proofs.framing.frame_answers.Given as goal

abbrev pub invariant-loop-number : goal.invariant-loop-number
invariant-loop-number l = Framed l.segments l.initial.sessions l.sessions l.number
