use Rattle.std.proofs.Common.{◌≡◌, ◌⊎◌, ◌∙◌, true, Option, Some, None, List, length, sym, ap, subst}
use Rattle.std.proofs.lemmas.Result.{err_from_is_err_and}
use Rattle.pps_types.specs.declared.outcome.Outcome.TheVariants.{Wrote}
use Rattle.pps_types.specs.declared.refusal.Refusal.{Refusal}
use Rattle.pps_types.specs.declared.refusal.Refusal.TheVariants.{OutOfMemory, TableFull}
use Rattle.pps_types.specs.Plan.{Move}
use Rattle.service_state.specs.Tables.{content_in}
use Rattle.handle_requests.specs.Drafting.{HasRecordLines}
use Rattle.handle_requests.specs.Writes.{is_past, tells, told_by, late_refusal}
use Rattle.handle_requests.proofs.Drafts.{limits_fail, last_fails, draft_wants, draft_passes, draft_does}
use Rattle.handle_requests.proofs.writing.write.Goals as goal

pub begun-requires : goal.begun-requires
begun-requires c = subst (λ o. HasRecordLines o c.lines_ready.new.tables.names) (sym c.into_entry.ensures) c.in_ok-lines_ready.ensures.lines

pub returns-in_err-lines_ready-clause-err : goal.returns-in_err-lines_ready-clause-err
returns-in_err-lines_ready-clause-err c =
    let p = err_from_is_err_and c.from_residual-in_err-lines_ready.result c.from_residual-in_err-lines_ready.ensures.1 in
    let made = c.in_ok-prepared.ensures.ok in
    rw (p.1, p.2) (limits_fail (content_in c.args.tables.now) c.args.conn c.args.handle c.args.bytes.now made.draft made.drafted c.in_err-lines_ready.field-0.0
    (subst (λ (o : Option Refusal). (o ≡ Some c.in_err-lines_ready.field-0.0) ⊎ (c.in_err-lines_ready.field-0.0 ≡ OutOfMemory)) (λ i. late_refusal (content_in c.args.tables.now) (made.prepared.object i) (made.prepared.kind i)) c.in_err-lines_ready.ensures.err))

pub returns-in_err-beginning-clause-err : goal.returns-in_err-beginning-clause-err
returns-in_err-beginning-clause-err c =
    let p = err_from_is_err_and c.from_residual-in_err-beginning.result c.from_residual-in_err-beginning.ensures.1 in
    let made = c.in_ok-prepared.ensures.ok in
    let told : tells c.into_entry.result ≡ told_by (content_in c.args.tables.now) c.args.handle made.draft = ap tells c.into_entry.ensures ∙ made.prepared.tells in
    let late : late_refusal (content_in c.args.tables.now) made.draft.object made.draft.kind ≡ None =
    (λ i. late_refusal (content_in c.args.tables.now) (sym made.prepared.object i) (sym made.prepared.kind i)) ∙ c.in_ok-lines_ready.ensures.passes in
    rw (p.1, p.2) (last_fails (content_in c.args.tables.now) c.args.conn c.args.handle c.args.bytes.now made.draft made.drafted late c.in_err-beginning.field-0.0
    (subst (λ b. ((c.in_err-beginning.field-0.0 ≡ TableFull) × (b ≡ true)) ⊎ (c.in_err-beginning.field-0.0 ≡ OutOfMemory)) (λ i. is_past (c.lines_ready.ensures.content i) (told i)) c.in_err-beginning.ensures.err))

pub returns-clause-passes : goal.returns-clause-passes
returns-clause-passes c =
    let made = c.in_ok-prepared.ensures.ok in
    let told : tells c.into_entry.result ≡ told_by (content_in c.args.tables.now) c.args.handle made.draft = ap tells c.into_entry.ensures ∙ made.prepared.tells in
    let late : late_refusal (content_in c.args.tables.now) made.draft.object made.draft.kind ≡ None =
    (λ i. late_refusal (content_in c.args.tables.now) (sym made.prepared.object i) (sym made.prepared.kind i)) ∙ c.in_ok-lines_ready.ensures.passes in
    let past : is_past (content_in c.lines_ready.new.tables) (tells c.into_entry.result) ≡ is_past (content_in c.args.tables.now) (told_by (content_in c.args.tables.now) c.args.handle made.draft) = λ i. is_past (c.lines_ready.ensures.content i) (told i) in
    draft_passes (content_in c.args.tables.now) c.args.conn c.args.handle c.args.bytes.now made.draft made.drafted late (sym past ∙ c.in_ok-beginning.ensures.last)

pub returns-clause-does : goal.returns-clause-does
returns-clause-does c =
    let made = c.in_ok-prepared.ensures.ok in
    let told : tells c.into_entry.result ≡ told_by (content_in c.args.tables.now) c.args.handle made.draft = ap tells c.into_entry.ensures ∙ made.prepared.tells in
    draft_does (content_in c.args.tables.now) c.args.conn c.args.handle c.args.bytes.now made.draft made.drafted
    ∙ ap (λ (ms : List Move). (Wrote (length c.args.bytes.now), ms)) (sym (c.in_ok-beginning.ensures.tells ∙ told))

pub returns-clause-wants : goal.returns-clause-wants
returns-clause-wants c =
    let made = c.in_ok-prepared.ensures.ok in
    draft_wants (content_in c.args.tables.now) c.args.conn c.args.handle c.args.bytes.now made.draft made.drafted
