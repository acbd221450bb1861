use Rattle.pps_dispatch.proofs.FramesMade.{one_framed, all_framed}
use Rattle.pps_dispatch.proofs.framing.frame_answers.Goals as goal

pub loop-number-preserved : goal.loop-number-preserved
loop-number-preserved c =
    one_framed c.args.segments.now c.args.sessions.now c.loop-number.sessions c.loop-number.number _ _ c.loop-number.invariant c.loop-number-test.true c.in_ok-give_frames.ensures

pub returns : goal.returns
returns c = all_framed _ _ _ _ c.loop-number.invariant c.loop-number-test.false
