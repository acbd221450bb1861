use Rattle.std.proofs.Common.{subst}
use Rattle.std.specs.Arc.{arc_value}
use Rattle.pps_lock.specs.Trace.{Log, Replays}
use Rattle.pps_lock.proofs.Replaying.{enter-recorded}
use Rattle.pps_lock.proofs.shared.Shared.enter.Goals as goal

pub returns-clause-entered : goal.returns-clause-entered
returns-clause-entered g c =
    let replays = subst (λ (b : Log). Replays b.base b.trace b.engine) c.deref.ensures (record { seen = c.replays.ensures.seen; sends = c.replays.ensures.sends }) in
    enter-recorded c.deref_mut.result.now c.enter-entered.new.self (arc_value c.args.event) c.enter-entered.result replays c.enter-entered.ensures.enters c.enter-entered.ensures.named
    c.enter-entered.ensures.same
