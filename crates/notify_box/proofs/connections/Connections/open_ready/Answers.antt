use Rattle.std.proofs.Common.{Some, refl, ap, arith}
use Rattle.notify_box.proofs.ConnectionChanges.{rising_changed, room_changed, found, found_new, gone, each_same, each_grown}
use Rattle.notify_box.specs.contracts.attached.Attached.{the_view}
use Rattle.notify_box.proofs.connections.Connections.open_ready.Goals as goal

pub returns-in_default-clause-ok : goal.returns-in_default-clause-ok
returns-in_default-clause-ok c = rw (← c.self.view_is) (rw (gone c.args.conn c.self.inside.attached.items _ (rw c.deref.ensures.value at c.in_default.ensures.absent)) tt)

pub returns-in_default-reserve-clause-memory : goal.returns-in_default-reserve-clause-memory
returns-in_default-reserve-clause-memory c = rw (← c.self.view_is) (rw (found c.args.conn c.self.inside.attached.items c.in-Ok.place (the_view c.attached.inside) (rw c.deref.ensures.value at c.in-Ok.ensures.found) (rw c.attached.view_is c.index_mut-attached.ensures.value)) (ap Some c.in_default-reserve.ensures.lacking))

pub invariant_of-self-2 : goal.invariant_of-self-2
invariant_of-self-2 c = rising_changed c.args.conn c.self.inside.attached.items c.in-Ok.place (the_view c.attached.inside) (rw c.deref.ensures.value at c.in-Ok.ensures.found) (rw c.attached.view_is c.index_mut-attached.ensures.value) _ refl c.self.invariant

pub returns-clause-ok : goal.returns-clause-ok
returns-clause-ok c = rw (found_new c.args.conn c.self.inside.attached.items c.in-Ok.place (the_view c.attached.inside) (rw c.deref.ensures.value at c.in-Ok.ensures.found) (rw c.attached.view_is c.index_mut-attached.ensures.value) (the_view record { number = c.attached.inside.number; outbox = c.attached.inside.outbox; handles = c.reserve.new.self }) refl) c.in-Ok-reserve.ensures.room

pub returns-clause-kept : goal.returns-clause-kept
returns-clause-kept c = rw (← c.self.view_is) (each_grown c.args.conn c.self.inside.attached.items c.in-Ok.place (the_view c.attached.inside) (rw c.deref.ensures.value at c.in-Ok.ensures.found) (rw c.attached.view_is c.index_mut-attached.ensures.value) (the_view record { number = c.attached.inside.number; outbox = c.attached.inside.outbox; handles = c.reserve.new.self }) refl c.reserve.ensures.kept)

pub returns-clause-same : goal.returns-clause-same
returns-clause-same c = rw (← c.self.view_is) (room_changed c.args.conn _ c.self.inside.attached.items c.in-Ok.place (the_view c.attached.inside) (rw c.deref.ensures.value at c.in-Ok.ensures.found) (rw c.attached.view_is c.index_mut-attached.ensures.value) _ (ap (λ hs. record { number = c.attached.inside.number; outbox = c.attached.inside.outbox.outbox; handles = hs }) c.reserve.ensures.handles))

pub returns-clause-roomed : goal.returns-clause-roomed
returns-clause-roomed c = rw (← c.self.view_is) (each_same c.args.conn c.self.inside.attached.items c.in-Ok.place (the_view c.attached.inside) (rw c.deref.ensures.value at c.in-Ok.ensures.found) (rw c.attached.view_is c.index_mut-attached.ensures.value) (the_view record { number = c.attached.inside.number; outbox = c.attached.inside.outbox; handles = c.reserve.new.self }) refl (λ x. x.roomed) refl)
