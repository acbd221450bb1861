use Rattle.std.proofs.Common.{subst}
use Rattle.std.specs.Arc.{arc_value}
use Rattle.pps_lock.specs.Trace.{Log, Replays}
use Rattle.pps_lock.proofs.Replaying.{step-recorded}
use Rattle.pps_lock.proofs.shared.Shared.step.Goals as goal

pub returns-clause-recorded : goal.returns-clause-recorded
returns-clause-recorded g c =
    let replays = subst (λ (b : Log). Replays b.base b.trace b.engine) c.deref.ensures (record { seen = c.replays.ensures.seen; sends = c.replays.ensures.sends }) in
    step-recorded c.deref_mut.result.now c.step-stepped.new.self (arc_value c.args.event) c.step-stepped.result replays c.step-stepped.ensures.added c.step-stepped.ensures.named
    c.step-stepped.ensures.same
