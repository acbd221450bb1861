use Rattle.notify_box.proofs.Sound.{ready_again}
use Rattle.notify_box.proofs.outbox.Outbox.arm_ready.Goals as goal

pub returns-then-has-clause-ok : goal.returns-then-has-clause-ok
returns-then-has-clause-ok c = rw (← c.self.view_is) (ready_again c.self.inside.items c.self.inside.armed c.self.inside.parked c.args.handle c.self.invariant (rw (c.if-has.true, c.deref.ensures.value, c.number.ensures.same) at c.has.ensures))
