use Rattle.std.proofs.Common.{◌≡◌, ◌≤◌, ◌+◌, vec_len, vec_capacity}
use Rattle.std.specs.Prelude.{All}
use Rattle.crossbeam_queue.specs.Passes.{IsPassOf}
use Rattle.pps_dispatch.proofs.work.fn.fan_out.scope.Given as goal

abbrev pub invariant-loop : goal.invariant-loop
invariant-loop g l =
    IsPassOf l.queue.now l.pass × All (λ s. s.handle.promise.queue.value ≡ l.queue.now) l.started.items
    × (vec_len l.started + 1 ≤ l.counter) × (l.end ≤ vec_capacity l.started)
