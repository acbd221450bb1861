use Rattle.std.proofs.Common.{arith}
use Rattle.notify_box.proofs.Sound.{sound_armed}
use Rattle.notify_box.proofs.outbox.Outbox.arm.Goals as goal

pub put-requires-clause-room : goal.put-requires-clause-room
put-requires-clause-room c none = let room = (rw (← c.self.view_is) at c.requires.room) none in omega (arith, room)

pub invariant_of-self : goal.invariant_of-self
invariant_of-self c = sound_armed c.self.inside.items c.self.inside.armed c.put.new.entries c.self.inside.parked c.args.handle c.self.invariant (rw (← c.self.view_is) at c.requires) c.put.ensures.rising c.put.ensures.len
