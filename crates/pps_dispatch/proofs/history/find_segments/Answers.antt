use Rattle.pps_dispatch.proofs.Searching.{finds_segments-more}
use Rattle.pps_dispatch.proofs.history.find_segments.Goals as goal

pub loop-segment-preserved : goal.loop-segment-preserved
loop-segment-preserved c =
    finds_segments-more _ _ _ _ _ _ c.args.segments.now c.segment-item.result c.loop-segment-test.true c.segment-item.is c.loop-segment.invariant c.in_ok-find_segment.ensures
