use Rattle.std.specs.Prelude.{map}
use Rattle.std.specs.List.{concat}
use Rattle.std.proofs.Common.{◌∙◌, ap}
use Rattle.std.proofs.lemmas.Result.{err_from_is_err_and}
use Rattle.name_table.specs.Listed.{members_at}
use Rattle.name_table.specs.Standing.{content_of, standing_of}
use Rattle.service_state.specs.Tables.{content_in}
use Rattle.path_requests.specs.Listed.{line_listed}
use Rattle.path_requests.proofs.Checked.{list_fails, list_passes, list_does}
use Rattle.path_requests.proofs.listing.list.Goals as goal

pub returns-in_err-members-clause-err : goal.returns-in_err-members-clause-err
returns-in_err-members-clause-err c =
    let p = err_from_is_err_and c.from_residual-in_err-members.result c.from_residual-in_err-members.ensures.1 in
    rw (p.1, p.2) (list_fails c.questions_are_told.ensures (content_in c.args.tables.now) c.args.path.now c.in_ok-names.names.items c.deref.result.now c.in_ok-names.ensures.ok c.deref.ensures.value
    (standing_of c.names.result.now) (ap standing_of c.names.ensures) c.in_err-members.field-0.0 (λ _. c.in_err-members.ensures.refusal))

pub returns-clause-passes : goal.returns-clause-passes
returns-clause-passes c =
    list_passes c.questions_are_told.ensures (content_in c.args.tables.now) c.args.path.now c.in_ok-names.names.items c.deref.result.now c.in_ok-names.ensures.ok c.deref.ensures.value
    (standing_of c.names.result.now) (ap standing_of c.names.ensures) c.in_ok-members.ensures.refusal

pub returns-clause-does : goal.returns-clause-does
returns-clause-does c =
    list_does c.members_are_listed.ensures (content_in c.args.tables.now) c.args.conn c.args.path.now c.in_ok-names.names.items c.in_ok-names.ensures.ok c.in_ok-data.data
    (c.in_ok-data.ensures ∙ c.in_ok-text.ensures ∙ ap (λ ms. concat (map line_listed ms)) (c.in_ok-members.ensures.ok
    ∙ ap (λ n. members_at (content_of (standing_of n)) c.deref.result.now) c.names.ensures ∙ ap (members_at (content_of (standing_of c.args.tables.now.names))) c.deref.ensures.value))
