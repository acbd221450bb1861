use Rattle.std.specs.Prelude.{◌≡◌, map, false}
use Rattle.std.specs.List.{flat_map}
use Rattle.std.proofs.Common.{◌∙◌, ap}
use Rattle.std.proofs.lemmas.Result.{err_from_is_err_and}
use Rattle.pps_types.specs.Reading.{OpenHandle}
use Rattle.pps_types.specs.Rests.{Progress}
use Rattle.pps_types.specs.Content.{handles_of}
use Rattle.service_state.specs.Tables.{content_in}
use Rattle.service_state.specs.Begun.{bare}
use Rattle.handle_requests.specs.Begun.{begun_behind}
use Rattle.handle_requests.proofs.Plans.{detach_able, detach_plain, detach_does, detach_refusal, detach_fails}
use Rattle.handle_requests.proofs.closing.detach.Goals as goal

begins : (c : goal.After-deref) → map bare c.deref.result.now ≡ flat_map (begun_behind (content_in c.args.tables.now) c.args.conn) (map (λ (h : OpenHandle Progress). h.number) (handles_of (content_in c.args.tables.now) c.args.conn))
begins c = ap (map bare) c.deref.ensures.value ∙ c.in_ok-beginning.ensures.begun

pub begin_ready-requires-clause-able : goal.begin_ready-requires-clause-able
begin_ready-requires-clause-able c = detach_able (content_in c.args.tables.now) c.requires c.args.conn c.deref.result.now (begins c)

pub begin_ready-requires-clause-plain : goal.begin_ready-requires-clause-plain
begin_ready-requires-clause-plain c = detach_plain (content_in c.args.tables.now) c.requires c.args.conn c.deref.result.now (begins c)

pub returns-in_err-begin_ready-clause-err : goal.returns-in_err-begin_ready-clause-err
returns-in_err-begin_ready-clause-err c =
    let p = err_from_is_err_and c.from_residual-in_err-begin_ready.result c.from_residual-in_err-begin_ready.ensures.1 in
    rw (p.1, p.2) (detach_fails (content_in c.args.tables.now) c.requires c.args.conn c.deref.result.now (ap (map bare) c.deref.ensures.value ∙ c.in_ok-beginning.ensures.begun)
    c.events_are_settled.ensures c.closes_are_planned.ensures c.in_err-begin_ready.field-0.0 c.in_err-begin_ready.ensures.err)

pub returns-clause-passes : goal.returns-clause-passes
returns-clause-passes c =
    detach_refusal (content_in c.args.tables.now) c.requires c.args.conn c.deref.result.now (ap (map bare) c.deref.ensures.value ∙ c.in_ok-beginning.ensures.begun)
    c.events_are_settled.ensures c.closes_are_planned.ensures false c.in_ok-begin_ready.ensures.within

pub returns-clause-does : goal.returns-clause-does
returns-clause-does c =
    detach_does (content_in c.args.tables.now) c.requires c.args.conn c.in_ok-beginning.beginning.items c.in_ok-beginning.ensures.begun c.events_are_settled.ensures c.closes_are_planned.ensures
