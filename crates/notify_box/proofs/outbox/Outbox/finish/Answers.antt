use Rattle.std.proofs.Common.{arith}
use Rattle.notify_box.proofs.outbox.Outbox.finish.Goals as goal

pub invariant_of-self : goal.invariant_of-self
invariant_of-self c =
    let here = rw (← c.self.view_is) at c.requires in
    let len = rw (c.number.ensures.same, here) at c.take_out.ensures.len in
    record {
      armed_rise = c.self.invariant.armed_rise;
      parked_rise = c.take_out.ensures.rising;
      reserved = omega (arith, len, c.queue_reserved.ensures.len, c.queue_reserved.ensures.capacity, c.self.invariant.reserved);
      few = omega (arith, len, c.queue_reserved.ensures.len, c.self.invariant.few);
    }
