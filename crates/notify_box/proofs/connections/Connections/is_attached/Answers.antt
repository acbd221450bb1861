use Rattle.std.proofs.Common.{◌∙◌}
use Rattle.notify_box.proofs.ConnectionChanges.{told}
use Rattle.notify_box.proofs.connections.Connections.is_attached.Goals as goal

pub returns : goal.returns
returns c = rw (← c.self.view_is) (c.is_ok.ensures.value ∙ told c.args.conn c.self.inside.attached.items c.search.result (rw c.deref.ensures.value at c.search.ensures.found) (rw c.deref.ensures.value at c.search.ensures.absent))
