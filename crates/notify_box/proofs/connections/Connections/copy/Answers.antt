use Rattle.notify_box.proofs.ConnectionChanges.{rising_same}
use Rattle.notify_box.proofs.connections.Connections.copy.Goals as goal

pub invariant_of-result : goal.invariant_of-result
invariant_of-result c = rising_same c.self.inside.attached.items _ (rw c.deref.ensures.value at c.in_ok-attached.ensures.ok) c.self.invariant
