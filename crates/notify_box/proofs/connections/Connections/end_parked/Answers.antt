use Rattle.std.proofs.Common.{refl, sym}
use Rattle.notify_box.specs.Standing.{parked_ended}
use Rattle.notify_box.proofs.ConnectionChanges.{rising_changed, outbox_absent, outbox_changed}
use Rattle.notify_box.specs.contracts.attached.Attached.{the_view}
use Rattle.notify_box.proofs.connections.Connections.end_parked.Goals as goal

pub invariant_of-self : goal.invariant_of-self
invariant_of-self c = rising_changed c.args.conn c.self.inside.attached.items c.in-Ok.place (the_view c.attached.inside) (rw c.deref.ensures.value at c.in-Ok.ensures.found) (rw c.attached.view_is c.index_mut-attached.ensures.value) _ refl c.self.invariant

pub returns-then-is_parked : goal.returns-then-is_parked
returns-then-is_parked c = rw (← c.self.view_is) (outbox_changed c.args.conn _ c.self.inside.attached.items c.in-Ok.place (the_view c.attached.inside) (rw c.deref.ensures.value at c.in-Ok.ensures.found) (rw c.attached.view_is c.index_mut-attached.ensures.value) (λ box. parked_ended box c.args.handle) c.finish.new.self (rw (sym c.if-is_parked.ensures) c.finish.ensures))

pub returns-else-is_parked : goal.returns-else-is_parked
returns-else-is_parked c = rw (← c.self.view_is, ← c.attached.view_is) (outbox_changed c.args.conn _ c.self.inside.attached.items c.in-Ok.place (the_view c.attached.inside) (rw c.deref.ensures.value at c.in-Ok.ensures.found) (rw c.attached.view_is c.index_mut-attached.ensures.value) (λ box. parked_ended box c.args.handle) c.attached.inside.outbox (rw (sym c.if-is_parked.ensures) refl))

pub returns-in_default : goal.returns-in_default
returns-in_default c = rw (← c.self.view_is) (outbox_absent c.args.conn _ c.self.inside.attached.items _ (λ box. parked_ended box c.args.handle) (rw c.deref.ensures.value at c.in_default.ensures.absent))
