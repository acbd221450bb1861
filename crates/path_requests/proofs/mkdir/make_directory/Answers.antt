use Rattle.std.specs.Prelude.{true, false}
use Rattle.std.proofs.Common.{sym, ◌∙◌, ap, inl}
use Rattle.std.proofs.lemmas.Result.{err_from_is_err_and}
use Rattle.pps_types.specs.Checks.{first_refusal, mkdir_checks}
use Rattle.service_state.specs.Tables.{content_in}
use Rattle.path_requests.proofs.Checked.{make_fails, mkdir_does, mkdir_refusal_last}
use Rattle.path_requests.proofs.mkdir.make_directory.Goals as goal

pub returns-in_err-check_new_directory-clause-err : goal.returns-in_err-check_new_directory-clause-err
returns-in_err-check_new_directory-clause-err c =
    let p = err_from_is_err_and c.from_residual-in_err-check_new_directory.result c.from_residual-in_err-check_new_directory.ensures.1 in
    rw (p.1, p.2) (make_fails (content_in c.args.tables.now) c.args.conn c.args.path.now c.in_ok-names.names.items c.deref.result.now c.in_ok-names.ensures.ok c.deref.ensures.value
    c.in_err-check_new_directory.field-0.0 c.in_err-check_new_directory.ensures)

pub returns-then-passes_last_number-clause-err : goal.returns-then-passes_last_number-clause-err
returns-then-passes_last_number-clause-err c =
    inl (mkdir_refusal_last c.events_are_settled.ensures (content_in c.args.tables.now) c.args.conn c.args.path.now c.in_ok-names.names.items c.in_ok-names.ensures.ok
    (sym (c.in_ok-check_new_directory.ensures ∙ ap (λ p. first_refusal (mkdir_checks (content_in c.args.tables.now) p)) c.deref.ensures.value)) true (sym c.if-passes_last_number.true ∙ c.passes_last_number.ensures))

pub returns-clause-passes : goal.returns-clause-passes
returns-clause-passes c =
    mkdir_refusal_last c.events_are_settled.ensures (content_in c.args.tables.now) c.args.conn c.args.path.now c.in_ok-names.names.items c.in_ok-names.ensures.ok
    (sym (c.in_ok-check_new_directory.ensures ∙ ap (λ p. first_refusal (mkdir_checks (content_in c.args.tables.now) p)) c.deref.ensures.value)) false (sym c.if-passes_last_number.false ∙ c.passes_last_number.ensures)

pub returns-clause-does : goal.returns-clause-does
returns-clause-does c = mkdir_does (content_in c.args.tables.now) c.args.conn c.args.path.now c.in_ok-names.names.items c.in_ok-names.ensures.ok
