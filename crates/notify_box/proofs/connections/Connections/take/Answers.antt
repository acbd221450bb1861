use Rattle.std.proofs.Common.{refl}
use Rattle.pps_types.specs.Outbox.{behind_first}
use Rattle.notify_box.proofs.ConnectionChanges.{rising_changed, outbox_absent, outbox_changed, stood, not_stood}
use Rattle.notify_box.specs.contracts.attached.Attached.{the_view}
use Rattle.notify_box.proofs.connections.Connections.take.Goals as goal

pub returns-in_default-clause-item : goal.returns-in_default-clause-item
returns-in_default-clause-item c = rw (← c.self.view_is) (rw (not_stood c.args.conn c.self.inside.attached.items _ (rw c.deref.ensures.value at c.in_default.ensures.absent)) refl)

pub returns-in_default-clause-rest : goal.returns-in_default-clause-rest
returns-in_default-clause-rest c = rw (← c.self.view_is) (outbox_absent c.args.conn _ c.self.inside.attached.items _ (λ box. record box { items = behind_first box.items }) (rw c.deref.ensures.value at c.in_default.ensures.absent))

pub invariant_of-self : goal.invariant_of-self
invariant_of-self c = rising_changed c.args.conn c.self.inside.attached.items c.in-Ok.place (the_view c.attached.inside) (rw c.deref.ensures.value at c.in-Ok.ensures.found) (rw c.attached.view_is c.index_mut-attached.ensures.value) _ refl c.self.invariant

pub returns-clause-item : goal.returns-clause-item
returns-clause-item c = rw (← c.self.view_is) (rw (stood c.args.conn c.self.inside.attached.items c.in-Ok.place (the_view c.attached.inside) (rw c.deref.ensures.value at c.in-Ok.ensures.found) (rw c.attached.view_is c.index_mut-attached.ensures.value)) c.take.ensures.item)

pub returns-clause-rest : goal.returns-clause-rest
returns-clause-rest c = rw (← c.self.view_is) (outbox_changed c.args.conn _ c.self.inside.attached.items c.in-Ok.place (the_view c.attached.inside) (rw c.deref.ensures.value at c.in-Ok.ensures.found) (rw c.attached.view_is c.index_mut-attached.ensures.value) (λ box. record box { items = behind_first box.items }) c.take.new.self c.take.ensures.rest)
