use Rattle.std.proofs.Common.{arith}
use Rattle.notify_box.proofs.ConnectionChanges.{same_at}
use Rattle.notify_box.proofs.attached.same_all.Goals as goal

pub returns-then-not-same : goal.returns-then-not-same
returns-then-not-same c = (λ h. cc, λ same. rw (c.if-not-same.true) at (c.same.ensures.1 (same_at c.args.one.now c.args.other.now c.loop-i.i c.index-one-i.result c.index-other-i.result (omega arith) (omega arith) c.index-one-i.is c.index-other-i.is same)))
