use Rattle.std.proofs.Common.{refl}
use Rattle.notify_box.proofs.Free.{park_free, none_filtered}
use Rattle.notify_box.proofs.outbox.Outbox.park.Goals as goal

pub returns : goal.returns
returns c = rw (← c.self.view_is) (rw (c.put.ensures.items, none_filtered (λ p. p) c.args.handle c.self.inside.parked.items (rw (← c.self.view_is) at (park_free c.args.self.now.outbox c.args.handle c.requires.free).absent)) refl)
