use Rattle.std.proofs.Common.{◌++◌, ◌∷◌, [], refl, arith}
use Rattle.notify_box.proofs.ConnectionChanges.{rising_changed, handles_changed, handles_absent, found, stood, each_taken, none_taken, rising_push}
use Rattle.notify_box.specs.contracts.attached.Attached.{the_view}
use Rattle.notify_box.proofs.connections.Connections.opened.Goals as goal

pub push_reserved-requires : goal.push_reserved-requires
push_reserved-requires c = let room = rw (found c.args.conn c.self.inside.attached.items c.in-Ok.place (the_view c.attached.inside) (rw c.deref.ensures.value at c.in-Ok.ensures.found) (rw c.attached.view_is c.index_mut-attached.ensures.value)) at (rw (← c.self.view_is) at c.requires.room) in omega (arith, room)

pub invariant_of-attached : goal.invariant_of-attached
invariant_of-attached c = rw c.push_reserved.ensures.handles (rising_push c.args.handle _ c.attached.invariant (rw (stood c.args.conn c.self.inside.attached.items c.in-Ok.place (the_view c.attached.inside) (rw c.deref.ensures.value at c.in-Ok.ensures.found) (rw c.attached.view_is c.index_mut-attached.ensures.value)) at (rw (← c.self.view_is) at c.requires.above)))

pub invariant_of-self : goal.invariant_of-self
invariant_of-self c = rising_changed c.args.conn c.self.inside.attached.items c.in-Ok.place (the_view c.attached.inside) (rw c.deref.ensures.value at c.in-Ok.ensures.found) (rw c.attached.view_is c.index_mut-attached.ensures.value) _ refl c.self.invariant

pub returns-in-Ok-clause-handles : goal.returns-in-Ok-clause-handles
returns-in-Ok-clause-handles c = rw (← c.self.view_is) (handles_changed c.args.conn _ c.self.inside.attached.items c.in-Ok.place (the_view c.attached.inside) (rw c.deref.ensures.value at c.in-Ok.ensures.found) (rw c.attached.view_is c.index_mut-attached.ensures.value) (λ hs. hs ++ c.args.handle ∷ []) c.push_reserved.new.self.handles _ c.push_reserved.ensures.handles)

pub returns-in-Ok-clause-room : goal.returns-in-Ok-clause-room
returns-in-Ok-clause-room c = rw (← c.self.view_is) (each_taken c.args.conn c.self.inside.attached.items c.in-Ok.place (the_view c.attached.inside) (rw c.deref.ensures.value at c.in-Ok.ensures.found) (rw c.attached.view_is c.index_mut-attached.ensures.value) (the_view record { number = c.attached.inside.number; outbox = c.attached.inside.outbox; handles = c.push_reserved.new.self }) refl (omega (arith, c.push_reserved.ensures.room)))

pub returns-in_default-clause-room : goal.returns-in_default-clause-room
returns-in_default-clause-room c = rw (← c.self.view_is) (none_taken c.args.conn c.self.inside.attached.items _ (rw c.deref.ensures.value at c.in_default.ensures.absent))

pub returns-in_default-clause-handles : goal.returns-in_default-clause-handles
returns-in_default-clause-handles c = rw (← c.self.view_is) (handles_absent c.args.conn _ c.self.inside.attached.items _ (λ hs. hs ++ c.args.handle ∷ []) (rw c.deref.ensures.value at c.in_default.ensures.absent))
