use Rattle.std.proofs.Common.{ap, sym, ◌∙◌}
use Rattle.std.proofs.lemmas.Result.{err_from_is_err_and}
use Rattle.pps_types.specs.Names as paths
use Rattle.pps_types.specs.OpenText as meant
use Rattle.service_state.specs.Tables.{content_in}
use Rattle.path_requests.proofs.Passing.{open_refused, numbers_fail, numbers_pass}
use Rattle.path_requests.proofs.opening.checked.Goals as goal

pub returns-in-Err-clause-err : goal.returns-in-Err-clause-err
returns-in-Err-clause-err c =
    open_refused (content_in c.args.tables.now) c.args.mode c.args.text.now c.in_ok-spec.spec c.in-Err.refusal (sym c.letters_fit.ensures ∙ c.if-not-letters_fit.false)
    (ap meant.open_text (sym c.as_slice.ensures) ∙ c.in_ok-spec.ensures.ok) (sym c.check_open.ensures.refusal ∙ ap paths.refusal_of c.in-Err.is)

pub returns-in_err-check_numbers-clause-err : goal.returns-in_err-check_numbers-clause-err
returns-in_err-check_numbers-clause-err c =
    let p = err_from_is_err_and c.from_residual-in_err-check_numbers.result c.from_residual-in_err-check_numbers.ensures.1 in
    rw (p.1, p.2) (λ conn. numbers_fail c.args.tables.now c.args.mode c.in_ok-spec.spec c.way_of-way.result c.way_of-way.ensures conn c.events_are_settled.ensures c.args.text.now
    (ap meant.open_text (sym c.as_slice.ensures) ∙ c.in_ok-spec.ensures.ok) (sym c.letters_fit.ensures ∙ c.if-not-letters_fit.false)
    (sym c.check_open.ensures.refusal ∙ ap paths.refusal_of c.in-Ok.is) c.in_err-check_numbers.field-0.0 c.in_err-check_numbers.ensures.refusal)

pub returns-clause-passes : goal.returns-clause-passes
returns-clause-passes c = λ conn.
    numbers_pass c.args.tables.now c.args.mode c.in_ok-spec.spec c.way_of-way.result c.way_of-way.ensures conn c.events_are_settled.ensures c.args.text.now
    (ap meant.open_text (sym c.as_slice.ensures) ∙ c.in_ok-spec.ensures.ok) (sym c.letters_fit.ensures ∙ c.if-not-letters_fit.false)
    (sym c.check_open.ensures.refusal ∙ ap paths.refusal_of c.in-Ok.is) c.in_ok-check_numbers.ensures.refusal
