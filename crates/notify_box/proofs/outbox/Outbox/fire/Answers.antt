use Rattle.std.proofs.Common.{ℕ, arith, sym, ◌∙◌}
use Rattle.pps_types.specs.Outbox.{PulseOf}
use Rattle.notify_box.proofs.Free.{found_any}
use Rattle.notify_box.proofs.outbox.Outbox.fire.Goals as goal

pub invariant_of-self-2 : goal.invariant_of-self-2
invariant_of-self-2 c =
    let here = found_any (λ (a : ℕ × PulseOf). a.0) c.number.result c.self.inside.armed.items c.in-Some.armed (sym c.take_out.ensures.entry ∙ c.in-Some.is) in
    let len = rw here at c.take_out.ensures.len in
    record {
      armed_rise = c.take_out.ensures.rising;
      parked_rise = c.self.invariant.parked_rise;
      reserved = omega (arith, len, c.queue_reserved.ensures.len, c.queue_reserved.ensures.capacity, c.self.invariant.reserved);
      few = omega (arith, len, c.queue_reserved.ensures.len, c.self.invariant.few);
    }
