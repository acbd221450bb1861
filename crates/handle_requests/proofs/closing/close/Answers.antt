use Rattle.std.specs.Prelude.{◌≡◌, ◌++◌, false, Some, None, map}
use Rattle.std.proofs.Common.{refl, sym, ◌∙◌, ap}
use Rattle.std.proofs.lemmas.Result.{err_from_is_err_and}
use Rattle.pps_types.specs.Reading.{OpenHandle}
use Rattle.pps_types.specs.Rests.{Progress}
use Rattle.service_state.specs.Tables.{content_in}
use Rattle.handle_requests.specs.Own.{opened_as}
use Rattle.service_state.specs.Begun.{bare}
use Rattle.handle_requests.specs.Begun.{begun}
use Rattle.handle_requests.proofs.Plans.{IsClosing, closing_known, closing_able, closing_plain, closing_does, closing_refusal, closing_fails, alone_passes, alone_does}
use Rattle.handle_requests.proofs.closing.close.Goals as goal

-- nobody is told
alone : (c : goal.In_default-2) → (h : OpenHandle Progress) × IsClosing (content_in c.args.tables.now) c.args.conn c.args.handle c.is_parked-is_parked.result None h
alone c = closing_known (content_in c.args.tables.now) c.args.conn c.args.handle (opened_as c.args.tables.now c.in-Some.own) c.in-Some.ensures c.is_parked-is_parked.result c.is_parked-is_parked.ensures
    None (sym c.in_default-2.is ∙ c.in_ok-entry.ensures.ok)

pub returns-in_default-2-clause-passes : goal.returns-in_default-2-clause-passes
returns-in_default-2-clause-passes c = let is = alone c in
    alone_passes (content_in c.args.tables.now) c.args.conn c.args.handle c.is_parked-is_parked.result is.0 is.1 c.events_are_settled.ensures c.numbers_are_within.ensures

pub returns-in_default-2-clause-does : goal.returns-in_default-2-clause-does
returns-in_default-2-clause-does c = let is = alone c in
    alone_does (content_in c.args.tables.now) c.args.conn c.args.handle c.is_parked-is_parked.result is.0 is.1 c.events_are_settled.ensures

-- somebody is told
told : (c : goal.After-deref) → (h : OpenHandle Progress) × IsClosing (content_in c.args.tables.now) c.args.conn c.args.handle c.is_parked-is_parked.result (Some c.in-Some-2.entry) h
told c = closing_known (content_in c.args.tables.now) c.args.conn c.args.handle (opened_as c.args.tables.now c.in-Some.own) c.in-Some.ensures c.is_parked-is_parked.result c.is_parked-is_parked.ensures
    (Some c.in-Some-2.entry) (sym c.in-Some-2.is ∙ c.in_ok-entry.ensures.ok)

begins : (c : goal.After-deref) → map bare c.deref.result.now ≡ begun c.args.conn c.args.handle c.is_parked-is_parked.result (Some c.in-Some-2.entry)
begins c = ap (map bare) c.deref.ensures.value ∙ c.in_ok-close_behind.ensures.begun ∙ ap (λ xs. map bare xs ++ begun c.args.conn c.args.handle c.is_parked-is_parked.result (Some c.in-Some-2.entry)) c.new-beginning.ensures.items

pub begin_ready-requires-clause-able : goal.begin_ready-requires-clause-able
begin_ready-requires-clause-able c = let is = told c in
    closing_able (content_in c.args.tables.now) c.args.conn c.args.handle c.is_parked-is_parked.result (Some c.in-Some-2.entry) is.0 is.1 c.deref.result.now (begins c)

pub begin_ready-requires-clause-plain : goal.begin_ready-requires-clause-plain
begin_ready-requires-clause-plain c = let is = told c in
    closing_plain (content_in c.args.tables.now) c.args.conn c.args.handle c.is_parked-is_parked.result (Some c.in-Some-2.entry) is.0 is.1 c.deref.result.now (begins c)

-- behind the room for what is begun
told_in : (c : goal.In_ok-begin_ready) → (h : OpenHandle Progress) × IsClosing (content_in c.args.tables.now) c.args.conn c.args.handle c.is_parked-is_parked.result (Some c.in-Some-2.entry) h
told_in c = closing_known (content_in c.args.tables.now) c.args.conn c.args.handle (opened_as c.args.tables.now c.in-Some.own) c.in-Some.ensures c.is_parked-is_parked.result c.is_parked-is_parked.ensures
    (Some c.in-Some-2.entry) (sym c.in-Some-2.is ∙ c.in_ok-entry.ensures.ok)

begins_in : (c : goal.In_ok-begin_ready) → map bare c.close_behind.new.beginning.items ≡ begun c.args.conn c.args.handle c.is_parked-is_parked.result (Some c.in-Some-2.entry)
begins_in c = c.in_ok-close_behind.ensures.begun ∙ ap (λ xs. map bare xs ++ begun c.args.conn c.args.handle c.is_parked-is_parked.result (Some c.in-Some-2.entry)) c.new-beginning.ensures.items

pub returns-clause-passes : goal.returns-clause-passes
returns-clause-passes c = let is = told_in c in
    closing_refusal (content_in c.args.tables.now) c.args.conn c.args.handle c.is_parked-is_parked.result (Some c.in-Some-2.entry) is.0 is.1 c.deref.result.now (ap (map bare) c.deref.ensures.value ∙ begins_in c)
    c.events_are_settled.ensures false c.in_ok-begin_ready.ensures.within

pub returns-clause-does : goal.returns-clause-does
returns-clause-does c = let is = told_in c in
    closing_does (content_in c.args.tables.now) c.args.conn c.args.handle c.is_parked-is_parked.result (Some c.in-Some-2.entry) is.0 is.1 c.close_behind.new.beginning.items (begins_in c) c.events_are_settled.ensures

pub returns-in_err-begin_ready-clause-err : goal.returns-in_err-begin_ready-clause-err
returns-in_err-begin_ready-clause-err c =
    let p = err_from_is_err_and c.from_residual-in_err-begin_ready.result c.from_residual-in_err-begin_ready.ensures.1 in
    let is = closing_known (content_in c.args.tables.now) c.args.conn c.args.handle (opened_as c.args.tables.now c.in-Some.own) c.in-Some.ensures c.is_parked-is_parked.result c.is_parked-is_parked.ensures
    (Some c.in-Some-2.entry) (sym c.in-Some-2.is ∙ c.in_ok-entry.ensures.ok) in
    rw (p.1, p.2) (closing_fails (content_in c.args.tables.now) c.args.conn c.args.handle c.is_parked-is_parked.result (Some c.in-Some-2.entry) is.0 is.1 c.deref.result.now
    (ap (map bare) c.deref.ensures.value ∙ c.in_ok-close_behind.ensures.begun ∙ ap (λ xs. map bare xs ++ begun c.args.conn c.args.handle c.is_parked-is_parked.result (Some c.in-Some-2.entry)) c.new-beginning.ensures.items)
    c.events_are_settled.ensures refl c.in_err-begin_ready.field-0.0 c.in_err-begin_ready.ensures.err)
