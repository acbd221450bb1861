use Rattle.std.proofs.Common.{sym, ◌∙◌, arith}
use Rattle.pps_lock.proofs.Replaying.{replays-longer}
use Rattle.pps_lock.proofs.book.Book.enter.Goals as goal

pub invariant_of-self : goal.invariant_of-self
invariant_of-self c = record {
  replays = replays-longer _ _ _ _ _ _ _ _ c.self.invariant.replays c.step-reply.ensures.seen c.step-reply.ensures.sends (c.new.ensures.event ∙ sym c.deref.ensures)
      c.new.ensures.reply c.push_reserved.ensures.items;
  within = omega (arith, c.push_reserved.ensures.len, c.len-index.ensures, c.if-index-self.false);
  room = omega (arith, c.push_reserved.ensures.capacity, c.self.invariant.room);
}
