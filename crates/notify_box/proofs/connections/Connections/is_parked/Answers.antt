use Rattle.std.proofs.Common.{refl}
use Rattle.notify_box.proofs.ConnectionChanges.{stood, not_stood}
use Rattle.notify_box.specs.contracts.attached.Attached.{the_view}
use Rattle.notify_box.proofs.connections.Connections.is_parked.Goals as goal

pub returns-in-Ok : goal.returns-in-Ok
returns-in-Ok c = rw (← c.self.view_is) (rw (stood c.args.conn c.self.inside.attached.items c.in-Ok.place (the_view c.attached.inside) (rw c.deref.ensures.value at c.in-Ok.ensures.found) (rw c.attached.view_is c.index-attached.ensures)) c.is_parked.ensures)

pub returns-in-Err : goal.returns-in-Err
returns-in-Err c = rw (← c.self.view_is) (rw (not_stood c.args.conn c.self.inside.attached.items _ (rw c.deref.ensures.value at c.in-Err.ensures.absent)) refl)
