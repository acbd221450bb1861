use Rattle.std.proofs.Common.{refl}
use Rattle.pps_types.specs.Outbox.{with_pulse}
use Rattle.notify_box.proofs.ConnectionChanges.{rising_changed, outbox_absent, outbox_changed, found}
use Rattle.notify_box.specs.contracts.attached.Attached.{the_view}
use Rattle.notify_box.proofs.connections.Connections.arm.Goals as goal

pub arm-requires : goal.arm-requires
arm-requires c = rw (found c.args.conn c.self.inside.attached.items c.in-Ok.place (the_view c.attached.inside) (rw c.deref.ensures.value at c.in-Ok.ensures.found) (rw c.attached.view_is c.index_mut-attached.ensures.value)) at (rw (← c.self.view_is) at c.requires)

pub invariant_of-self : goal.invariant_of-self
invariant_of-self c = rising_changed c.args.conn c.self.inside.attached.items c.in-Ok.place (the_view c.attached.inside) (rw c.deref.ensures.value at c.in-Ok.ensures.found) (rw c.attached.view_is c.index_mut-attached.ensures.value) _ refl c.self.invariant

pub returns-in-Ok : goal.returns-in-Ok
returns-in-Ok c = rw (← c.self.view_is) (outbox_changed c.args.conn _ c.self.inside.attached.items c.in-Ok.place (the_view c.attached.inside) (rw c.deref.ensures.value at c.in-Ok.ensures.found) (rw c.attached.view_is c.index_mut-attached.ensures.value) (λ box. with_pulse box c.args.handle (c.args.code, c.args.value)) c.arm.new.self c.arm.ensures)

pub returns-in_default : goal.returns-in_default
returns-in_default c = rw (← c.self.view_is) (outbox_absent c.args.conn _ c.self.inside.attached.items _ (λ box. with_pulse box c.args.handle (c.args.code, c.args.value)) (rw c.deref.ensures.value at c.in_default.ensures.absent))
