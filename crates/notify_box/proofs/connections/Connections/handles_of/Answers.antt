use Rattle.std.proofs.Common.{refl}
use Rattle.notify_box.proofs.ConnectionChanges.{stood, not_stood}
use Rattle.notify_box.specs.contracts.attached.Attached.{the_view}
use Rattle.notify_box.proofs.connections.Connections.handles_of.Goals as goal

pub returns-in-Ok-clause-handles : goal.returns-in-Ok-clause-handles
returns-in-Ok-clause-handles c = rw (← c.self.view_is) (rw (stood c.args.conn c.self.inside.attached.items c.in-Ok.place (the_view c.attached.inside) (rw c.deref.ensures.value at c.in-Ok.ensures.found) (rw c.attached.view_is c.index-attached.ensures)) c.as_slice.ensures)

pub returns-in-Ok-clause-rising : goal.returns-in-Ok-clause-rising
returns-in-Ok-clause-rising c = rw c.as_slice.ensures c.attached.invariant

pub returns-in-Err-clause-handles : goal.returns-in-Err-clause-handles
returns-in-Err-clause-handles c = rw (← c.self.view_is) (rw (not_stood c.args.conn c.self.inside.attached.items _ (rw c.deref.ensures.value at c.in-Err.ensures.absent)) refl)
