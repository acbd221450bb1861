use Rattle.std.proofs.Common.{◌==◌, refl}
use Rattle.pps_types.specs.Plan.{without_first}
use Rattle.notify_box.proofs.ConnectionChanges.{rising_changed, handles_changed, handles_absent, each_grown}
use Rattle.notify_box.specs.contracts.attached.Attached.{the_view}
use Rattle.notify_box.proofs.connections.Connections.closed.Goals as goal

pub invariant_of-self : goal.invariant_of-self
invariant_of-self c = rising_changed c.args.conn c.self.inside.attached.items c.in-Ok.place (the_view c.attached.inside) (rw c.deref.ensures.value at c.in-Ok.ensures.found) (rw c.attached.view_is c.index_mut-attached.ensures.value) _ refl c.self.invariant

pub returns-in-Ok-clause-handles : goal.returns-in-Ok-clause-handles
returns-in-Ok-clause-handles c = rw (← c.self.view_is) (handles_changed c.args.conn _ c.self.inside.attached.items c.in-Ok.place (the_view c.attached.inside) (rw c.deref.ensures.value at c.in-Ok.ensures.found) (rw c.attached.view_is c.index_mut-attached.ensures.value) (λ hs. without_first (λ h. h == c.args.handle) hs) c.remove.new.self.handles _ c.remove.ensures.handles)

pub returns-in-Ok-clause-room : goal.returns-in-Ok-clause-room
returns-in-Ok-clause-room c = rw (← c.self.view_is) (each_grown c.args.conn c.self.inside.attached.items c.in-Ok.place (the_view c.attached.inside) (rw c.deref.ensures.value at c.in-Ok.ensures.found) (rw c.attached.view_is c.index_mut-attached.ensures.value) (the_view record { number = c.attached.inside.number; outbox = c.attached.inside.outbox; handles = c.remove.new.self }) refl c.remove.ensures.room)

pub returns-in_default-clause-handles : goal.returns-in_default-clause-handles
returns-in_default-clause-handles c = rw (← c.self.view_is) (handles_absent c.args.conn _ c.self.inside.attached.items _ (λ hs. without_first (λ h. h == c.args.handle) hs) (rw c.deref.ensures.value at c.in_default.ensures.absent))
