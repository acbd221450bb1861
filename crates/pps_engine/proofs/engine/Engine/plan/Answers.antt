use Rattle.std.proofs.Common.{◌≡◌, true, Ok, ap, subst, sym, ◌∙◌}
use Rattle.pps_types.specs.declared.outcome.Outcome.{Outcome}
use Rattle.pps_types.specs.Outcome.{has_bytes, IsSendable}
use Rattle.pps_types.specs.Plan.{may_lack_memory, apply_all_seen}
use Rattle.service_state.specs.Tables.{Tabled, content_in}
use Rattle.pps_engine.specs.Events.{moves_pending}
use Rattle.pps_engine.specs.Serving.{Serving}
use Rattle.pps_engine.specs.Standing.{IsSound}
use Rattle.pps_engine.proofs.Marks.{bytes-may-lack}
use Rattle.pps_engine.proofs.Plans.{planned-reply, planned-as, planned-latest, planned-pending, planned-sends}
use Rattle.pps_engine.proofs.engine.Engine.plan.Goals as goal

pub invariant_of-self-2 : goal.invariant_of-self-2
invariant_of-self-2 c =
    let p = c.in_ok-reply.field-0 in
    let t = c.deref_mut-2.result.now in
    let sound = subst (λ (u : Tabled). IsSound (content_in u)) (sym c.deref_mut-2.ensures.value) c.self.invariant.0 in
    planned-pending t c.plan-planned.new.tables c.args.event.now p.reply p.pending c.planned_in-plan.result.1 c.keep.new.pending sound c.plan-planned.ensures.content c.in_ok-reply.ensures.plans
    c.in_ok-reply.ensures.ready c.planned_in-plan.ensures.pending c.keep.ensures

pub returns-clause-plans : goal.returns-clause-plans
returns-clause-plans c =
    let p = c.in_ok-reply.field-0 in
    let t = c.deref_mut-2.result.now in
    let same : content_in t ≡ c.args.self.now.content = ap (λ (u : Tabled). content_in u) c.deref_mut-2.ensures.value ∙ ap (λ (s : Serving). s.content) c.self.view_is in
    planned-as c.args.self.now.content t c.plan-planned.new.tables c.deref-tables.result.now c.args.event.now p.reply p.pending c.planned_in-plan.result.1 c.planned_in-plan.result.0 same
    c.plan-planned.ensures.content c.deref-tables.ensures c.planned_in-plan.ensures.pending c.planned_in-plan.ensures.same c.planned_in-plan.ensures.reply c.in_ok-reply.ensures.plans

pub returns-clause-latest : goal.returns-clause-latest
returns-clause-latest c =
    planned-latest c.plan-planned.new.tables c.deref-tables.result.now c.planned_in-plan.result.1 c.planned_in-plan.result.0 c.keep.new.pending c.keep.ensures c.deref-tables.ensures
    c.planned_in-plan.ensures.same

pub returns-clause-marks : goal.returns-clause-marks
returns-clause-marks c =
    let p = c.in_ok-reply.field-0 in
    let before = content_in c.deref_mut-2.result.now in
    subst (λ (o : Outcome). has_bytes o ≡ true → may_lack_memory c.args.self.now.content c.args.event.now ≡ true) (sym c.planned_in-plan.ensures.reply)
    (subst (λ (s : Serving). has_bytes p.reply ≡ true → may_lack_memory s.content c.args.event.now ≡ true) c.self.view_is
    (subst (λ (u : Tabled). has_bytes p.reply ≡ true → may_lack_memory (content_in u) c.args.event.now ≡ true) c.deref_mut-2.ensures.value
    (bytes-may-lack before c.args.event.now p.reply (planned-reply before (apply_all_seen (moves_pending p.pending c.plan-planned.new.tables) before) c.args.event.now p.reply c.in_ok-reply.ensures.plans))))

pub returns-clause-sends : goal.returns-clause-sends
returns-clause-sends c =
    let p = c.in_ok-reply.field-0 in
    let before = content_in c.deref_mut-2.result.now in
    let sound = subst (λ (u : Tabled). IsSound (content_in u)) (sym c.deref_mut-2.ensures.value) c.self.invariant.0 in
    subst (λ (o : Outcome). IsSendable (Ok o)) (sym c.planned_in-plan.ensures.reply)
    (planned-sends before (apply_all_seen (moves_pending p.pending c.plan-planned.new.tables) before) c.args.event.now p.reply sound.bound c.in_ok-reply.ensures.plans)
