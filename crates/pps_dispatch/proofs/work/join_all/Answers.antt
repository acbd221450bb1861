use Rattle.std.proofs.Common.{◌≡◌, length, sym, ap, subst, arith}
use Rattle.std.specs.Prelude.{All, Result, IfOk}
use Rattle.std.specs.Vec.Iter.{into_iter_items}
use Rattle.std.proofs.lemmas.List.Elements.{All-head, All-tail, All-push}
use Rattle.crossbeam_queue.specs.Passes.{IsPassOf}
use Rattle.pps_dispatch.specs.declared.fault.ServeError.{ServeError}
use Rattle.pps_dispatch.specs.declared.work.Started.{Started}
use Rattle.pps_dispatch.specs.declared.work.Worked.{Worked}
use Rattle.pps_dispatch.proofs.work.join_all.Goals as goal

pub loop-handle-preserved : goal.loop-handle-preserved
loop-handle-preserved g c =
    let before = c.loop-handle.invariant in
    let left = into_iter_items c.next.new.self in
    let OfQueue : Started g.row.N.Denot → Type 0 = λ s. s.handle.promise.queue.value ≡ c.args.queue.now in
    let Passes : Result Worked ServeError → Type 0 = λ r. IfOk r (λ worked. IsPassOf c.args.queue.now worked.pass) in
    let count = ap length c.in-Some.ensures.steps.0 in
    let handles = subst (λ l. All OfQueue l) c.in-Some.ensures.steps.0 before.1 in
    let pass = subst (λ q. IfOk c.join.result (λ worked. IsPassOf q worked.pass)) (All-head OfQueue c.in-Some.field-0 left handles) c.join.ensures in (
      omega (arith, before.0, count, c.push_reserved.ensures.len, c.push_reserved.ensures.capacity),
      All-tail OfQueue c.in-Some.field-0 left handles,
      subst (λ l. All Passes l) (sym c.push_reserved.ensures.items) (All-push Passes c.loop-handle.ended.items c.join.result before.2 pass),
    )
