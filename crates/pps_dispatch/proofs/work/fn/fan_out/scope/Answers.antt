use denote.Param.Send.{sendable}
use Rattle.std.proofs.Crossing.{crosses}
use Rattle.std.proofs.option.Option.TheSendSync as option
use Rattle.std.proofs.result.Result.TheSendSync as result
use Rattle.crossbeam_queue.below.atomic_table.proofs.shared.Seat.TheSendSync as seat
use Rattle.pps_lock.proofs.Sends.{segment_send}
use Rattle.pps_dispatch.proofs.fault.ServeError.TheSendSync as fault
use Rattle.std.proofs.Common.{◌≡◌, sym, ap, ◌∙◌, subst, arith, vec_len, vec_capacity}
use Rattle.std.specs.Prelude.{All}
use Rattle.std.proofs.lemmas.List.Elements.{All-push}
use Rattle.pps_dispatch.specs.declared.work.Started.{Started}
use Rattle.pps_dispatch.proofs.work.fn.fan_out.scope.Goals as goal
use Rattle.pps_dispatch.proofs.work.fn.fan_out.scope.Goals.{in-Ok, in_default}

pub loop-preserved : goal.loop-preserved
loop-preserved g c =
    let before = c.loop.invariant in
    let same = c.split_off-other.ensures.same in
    let OfQueue : Started g.row.N.Denot → Type 0 = λ s. s.handle.promise.queue.value ≡ c.captures.queue.now in
    elim c.match-handle.branch [
      | in-Ok w ↦
          let pushed = w.push_reserved.ensures in
          let handle = ap (λ p. p.queue.value) w.in-Ok.ensures.ok ∙ c.of.ensures in
          let items = ap (λ v. v.items) w.started-is ∙ pushed.items in
          let len = ap (λ v. vec_len v) w.started-is ∙ pushed.len in
          let capacity = ap (λ v. vec_capacity v) w.started-is ∙ pushed.capacity in (
            (same.0 ∙ before.0.0, same.2 ∙ before.0.1),
            subst (λ l. All OfQueue l) (sym items) (All-push OfQueue c.loop.started.items (record { handle = w.in-Ok.handle }) before.1 handle),
            omega (arith, before.2, len),
            omega (arith, before.3, capacity),
          )
      | in_default w ↦ (
        (same.0 ∙ before.0.0, same.2 ∙ before.0.1),
        subst (λ v. All OfQueue v.items) (sym w.started-is) before.1,
        omega (arith, before.2, ap (λ v. vec_len v) w.started-is),
        omega (arith, before.3, ap (λ v. vec_capacity v) w.started-is),
      )
    ]

pub spawn_with-handle-requires-send-T : goal.spawn_with-handle-requires-send-T
spawn_with-handle-requires-send-T g c κs within = search (segment_send, fault.the_send, result.the_send, seat.the_send, option.the_send, crosses, sendable) depth 60 fits 20000
