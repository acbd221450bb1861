use Rattle.std.proofs.lemmas.Result.{err_from_is_err_and}
use Rattle.service_state.specs.Tables.{content_in}
use Rattle.pps_engine.proofs.EventPlans.{refuses, wanting, can_follow, plans}
use Rattle.pps_engine.proofs.planned.plan.Goals as goal

pub returns-in_err-reply-clause-refuses : goal.returns-in_err-reply-clause-refuses
returns-in_err-reply-clause-refuses c =
    let p = err_from_is_err_and c.from_residual.result c.from_residual.ensures.1 in
    rw (p.1, p.2) (refuses (content_in c.args.tables.now) c.args.event.now _ c.in_err-reply.ensures.err)

pub returns-in_err-following-clause-refuses : goal.returns-in_err-following-clause-refuses
returns-in_err-following-clause-refuses c =
    let p = err_from_is_err_and c.from_residual-in_err-following.result c.from_residual-in_err-following.ensures.1 in
    rw (p.1, p.2) (wanting (content_in c.args.tables.now) c.args.event.now (c.in_ok-reply.ensures.ok.wants c.in_err-following.ensures.lacking))

pub returns-clause-plans : goal.returns-clause-plans
returns-clause-plans c =
    plans (content_in c.args.tables.now) c.args.event.now c.answer.new.tables c.in_ok-reply.ensures.content c.in_ok-reply.field-0 c.in_ok-reply.ensures.ok c.in_ok-following.following.items
    c.in_ok-following.ensures.ok

pub returns-clause-ready : goal.returns-clause-ready
returns-clause-ready c = record {
  does = c.in_ok-reply.ensures.ok.ready;
  follows = can_follow (content_in c.args.tables.now) c.args.event.now c.answer.new.tables c.in_ok-reply.ensures.content c.in_ok-reply.field-0 c.in_ok-reply.ensures.ok
      c.in_ok-following.following.items c.in_ok-following.ensures.ok;
}
