use Rattle.std.specs.Prelude.{◌≡◌, Some, None}
use Rattle.std.proofs.Common.{◌∙◌, sym}
use Rattle.std.proofs.lemmas.Result.{err_from_is_err_and}
use Rattle.pps_types.specs.declared.refusal.Refusal.TheVariants.{OutOfMemory}
use Rattle.notify_box.specs.Standing.{CanPark}
use Rattle.service_state.specs.Tables.{content_in}
use Rattle.whole_texts.specs.Answered.{meant}
use Rattle.handle_requests.proofs.Asked.{waiting_first, waiting_wants, waiting_fails, waiting_does, done_does, done_stays}
use Rattle.handle_requests.proofs.reading.read.Goals as goal

pub returns-in_err-park_ready-clause-err : goal.returns-in_err-park_ready-clause-err
returns-in_err-park_ready-clause-err c =
    let p = err_from_is_err_and c.from_residual-in_err-park_ready.result c.from_residual-in_err-park_ready.ensures.1 in
    rw (p.1, p.2) (waiting_fails (content_in c.args.tables.now) c.args.conn c.args.handle c.args.size (meant c.in_ok-answer.answer) c.in_ok-answer.ensures.ok (sym c.waits.ensures ∙ c.if-waits.true)
    c.in_err-park_ready.field-0.0 c.in_err-park_ready.ensures.refusal c.in_err-park_ready.ensures.free)

pub returns-then-waits-clause-passes : goal.returns-then-waits-clause-passes
returns-then-waits-clause-passes c = waiting_first (content_in c.args.tables.now) c.args.conn c.args.handle c.args.size (meant c.in_ok-answer.answer) c.in_ok-answer.ensures.ok (sym c.waits.ensures ∙ c.if-waits.true)
    (sym (c.in_ok-park_ready.ensures.refusal (λ e. let bad : None ≡ Some OutOfMemory = e in cc)))

pub returns-then-waits-clause-wants : goal.returns-then-waits-clause-wants
returns-then-waits-clause-wants c = waiting_wants (content_in c.args.tables.now) c.args.conn c.args.handle c.args.size (meant c.in_ok-answer.answer) c.in_ok-answer.ensures.ok (sym c.waits.ensures ∙ c.if-waits.true)
    (sym (c.in_ok-park_ready.ensures.refusal (λ e. let bad : None ≡ Some OutOfMemory = e in cc)))

pub returns-then-waits-clause-does : goal.returns-then-waits-clause-does
returns-then-waits-clause-does c = waiting_does (content_in c.args.tables.now) c.args.conn c.args.handle c.args.size (meant c.in_ok-answer.answer) c.in_ok-answer.ensures.ok (sym c.waits.ensures ∙ c.if-waits.true)
    c.effect-effect.result c.effect-effect.ensures

pub returns-clause-does : goal.returns-clause-does
returns-clause-does c = done_does (content_in c.args.tables.now) c.args.conn c.args.handle c.args.size (meant c.in_ok-answer.answer) c.in_ok-answer.ensures.ok (sym c.waits.ensures ∙ c.if-waits.false)
    c.data.result c.text_of.result.items c.effect-effect.result c.text_of.ensures c.data.ensures.reply c.data.ensures.effect c.effect-effect.ensures

pub returns-clause-room : goal.returns-clause-room
returns-clause-room c = done_stays (content_in c.args.tables.now) c.args.conn c.args.handle c.args.size (meant c.in_ok-answer.answer) c.in_ok-answer.ensures.ok (sym c.waits.ensures ∙ c.if-waits.false)
    c.data.result c.text_of.result.items c.effect-effect.result c.text_of.ensures c.data.ensures.reply c.data.ensures.effect c.effect-effect.ensures
    (CanPark c.args.conn c.args.handle c.args.tables.now.connections)
