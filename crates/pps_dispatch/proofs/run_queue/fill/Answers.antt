use Rattle.std.proofs.Common.{◌∙◌}
use Rattle.pps_dispatch.proofs.Turns.{one_filled}
use Rattle.pps_dispatch.proofs.run_queue.fill.Goals as goal

pub loop-number-preserved : goal.loop-number-preserved
loop-number-preserved g c =
    let before = c.loop-number.invariant in
    let step = c.put_in.ensures.pass in (
      (step.0 ∙ before.0.0, step.2 ∙ before.0.1),
      (step.0 ∙ before.1.0, step.1 ∙ before.1.1, step.2 ∙ before.1.2),
      one_filled _ _ _ _ c.loop-number-test.true before.2 c.put_in.ensures.view,
    )
