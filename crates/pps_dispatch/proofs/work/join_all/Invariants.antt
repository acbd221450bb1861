use Rattle.std.proofs.Common.{◌≡◌, ◌≤◌, ◌+◌, length, vec_len, vec_capacity}
use Rattle.std.specs.Prelude.{All, IfOk}
use Rattle.std.specs.Vec.Iter.{into_iter_items}
use Rattle.crossbeam_queue.specs.Passes.{IsPassOf}
use Rattle.pps_dispatch.proofs.work.join_all.Given as goal

abbrev pub invariant-loop-handle : goal.invariant-loop-handle
invariant-loop-handle g l =
    (vec_len l.ended + length (into_iter_items l.handle-iterator) ≤ vec_capacity l.ended)
    × All (λ s. s.handle.promise.queue.value ≡ l.queue) (into_iter_items l.handle-iterator)
    × All (λ r. IfOk r (λ worked. IsPassOf l.queue worked.pass)) l.ended.items
