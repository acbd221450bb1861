use Rattle.std.proofs.Common.{refl, ap}
use Rattle.notify_box.proofs.ConnectionChanges.{rising_changed, room_changed, found, found_new, gone, stood, not_stood, each_same}
use Rattle.notify_box.specs.contracts.attached.Attached.{the_view}
use Rattle.notify_box.proofs.connections.Connections.arm_ready.Goals as goal

pub returns-in_default-clause-refusal : goal.returns-in_default-clause-refusal
returns-in_default-clause-refusal c = λ _. rw (← c.self.view_is) (rw (not_stood c.args.conn c.self.inside.attached.items _ (rw c.deref.ensures.value at c.in_default.ensures.absent)) refl)

pub returns-in_default-clause-ok : goal.returns-in_default-clause-ok
returns-in_default-clause-ok c = rw (← c.self.view_is) (rw (gone c.args.conn c.self.inside.attached.items _ (rw c.deref.ensures.value at c.in_default.ensures.absent)) tt)

pub invariant_of-self : goal.invariant_of-self
invariant_of-self c = rising_changed c.args.conn c.self.inside.attached.items c.in-Ok.place (the_view c.attached.inside) (rw c.deref.ensures.value at c.in-Ok.ensures.found) (rw c.attached.view_is c.index_mut-attached.ensures.value) _ refl c.self.invariant

pub returns-clause-refusal : goal.returns-clause-refusal
returns-clause-refusal c = rw (← c.self.view_is) (rw (stood c.args.conn c.self.inside.attached.items c.in-Ok.place (the_view c.attached.inside) (rw c.deref.ensures.value at c.in-Ok.ensures.found) (rw c.attached.view_is c.index_mut-attached.ensures.value)) c.arm_ready.ensures.refusal)

pub returns-clause-memory : goal.returns-clause-memory
returns-clause-memory c = rw (← c.self.view_is) (rw (found c.args.conn c.self.inside.attached.items c.in-Ok.place (the_view c.attached.inside) (rw c.deref.ensures.value at c.in-Ok.ensures.found) (rw c.attached.view_is c.index_mut-attached.ensures.value)) c.arm_ready.ensures.memory)

pub returns-clause-ok : goal.returns-clause-ok
returns-clause-ok c = rw (found_new c.args.conn c.self.inside.attached.items c.in-Ok.place (the_view c.attached.inside) (rw c.deref.ensures.value at c.in-Ok.ensures.found) (rw c.attached.view_is c.index_mut-attached.ensures.value) (the_view record { number = c.attached.inside.number; outbox = c.arm_ready.new.self; handles = c.attached.inside.handles }) refl) c.arm_ready.ensures.ok

pub returns-clause-same : goal.returns-clause-same
returns-clause-same c = rw (← c.self.view_is) (room_changed c.args.conn _ c.self.inside.attached.items c.in-Ok.place (the_view c.attached.inside) (rw c.deref.ensures.value at c.in-Ok.ensures.found) (rw c.attached.view_is c.index_mut-attached.ensures.value) _ (ap (λ b. record { number = c.attached.inside.number; outbox = b; handles = c.attached.inside.handles.handles }) c.arm_ready.ensures.same))

pub returns-clause-handle_rooms : goal.returns-clause-handle_rooms
returns-clause-handle_rooms c = rw (← c.self.view_is) (each_same c.args.conn c.self.inside.attached.items c.in-Ok.place (the_view c.attached.inside) (rw c.deref.ensures.value at c.in-Ok.ensures.found) (rw c.attached.view_is c.index_mut-attached.ensures.value) (the_view record { number = c.attached.inside.number; outbox = c.arm_ready.new.self; handles = c.attached.inside.handles }) refl (λ x. x.handle_room) refl)
