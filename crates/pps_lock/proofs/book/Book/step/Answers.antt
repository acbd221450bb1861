use Rattle.std.proofs.Common.{sym, ◌∙◌, arith}
use Rattle.std.specs.Arc.{arc_value}
use Rattle.pps_engine.proofs.Runs.{steps-stand}
use Rattle.pps_lock.proofs.Replaying.{replays-longer}
use Rattle.pps_lock.proofs.book.Book.step.Goals as goal

pub invariant_of-self : goal.invariant_of-self
invariant_of-self c = record {
  replays = replays-longer _ _ _ _ _ _ _ _ c.self.invariant.replays c.answered-reply.ensures.seen c.answered-reply.ensures.sends (c.new.ensures.event ∙ sym c.deref.ensures)
      (c.new.ensures.reply ∙ c.answered-reply.ensures.same) c.push_reserved.ensures.items;
  within = omega (arith, c.push_reserved.ensures.len, c.len.ensures, c.if-len-self.false);
  room = omega (arith, c.push_reserved.ensures.capacity, c.self.invariant.room);
}

pub returns-clause-steps : goal.returns-clause-steps
returns-clause-steps c =
    rw (sym c.self.view_is) (steps-stand c.self.inside.engine.content (arc_value c.args.event) c.answered-reply.result.0 c.answered-reply.new.engine.content (rw c.deref.ensures at c.answered-reply.ensures.seen))
