use Rattle.std.proofs.Common.{refl}
use Rattle.pps_types.specs.Outbox.{fired_in}
use Rattle.notify_box.proofs.ConnectionChanges.{rising_changed, outbox_absent, outbox_changed}
use Rattle.notify_box.specs.contracts.attached.Attached.{the_view}
use Rattle.notify_box.proofs.connections.Connections.fire.Goals as goal

pub invariant_of-self : goal.invariant_of-self
invariant_of-self c = rising_changed c.args.conn c.self.inside.attached.items c.in-Ok.place (the_view c.attached.inside) (rw c.deref.ensures.value at c.in-Ok.ensures.found) (rw c.attached.view_is c.index_mut-attached.ensures.value) _ refl c.self.invariant

pub returns-in-Ok : goal.returns-in-Ok
returns-in-Ok c = rw (← c.self.view_is) (outbox_changed c.args.conn _ c.self.inside.attached.items c.in-Ok.place (the_view c.attached.inside) (rw c.deref.ensures.value at c.in-Ok.ensures.found) (rw c.attached.view_is c.index_mut-attached.ensures.value) (λ box. fired_in box c.args.handle) c.fire.new.self c.fire.ensures)

pub returns-in_default : goal.returns-in_default
returns-in_default c = rw (← c.self.view_is) (outbox_absent c.args.conn _ c.self.inside.attached.items _ (λ box. fired_in box c.args.handle) (rw c.deref.ensures.value at c.in_default.ensures.absent))
