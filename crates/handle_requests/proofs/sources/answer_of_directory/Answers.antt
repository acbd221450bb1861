use Rattle.std.specs.Prelude.{◌≡◌, ℕ, List, Bool, true, map, IfSome}
use Rattle.std.specs.Option.{option_copied}
use Rattle.std.proofs.Common.{◌∙◌, sym, ap, subst}
use Rattle.std.proofs.lemmas.Result.{err_from_is_err_and}
use Rattle.pps_types.specs.Reading.{OpenHandle, Answer, is_directory_kind}
use Rattle.pps_types.specs.Rests.{Progress, answer}
use Rattle.pps_types.specs.WellFormed.{RiseBetween}
use Rattle.pps_types.specs.Content.{own_handle, read_answer, members}
use Rattle.open_handles.specs.Whole.{Whole, handles_in}
use Rattle.name_table.specs.Standing.{Named, standing_of, content_of}
use Rattle.service_state.specs.Tables.{content_in}
use Rattle.whole_texts.specs.Answered.{Owes, answer_by}
use Rattle.handle_requests.specs.Directories.{directory_source}
use Rattle.handle_requests.specs.Reads.{Refuses}
use Rattle.handle_requests.proofs.Answered.{answer_told, owed_told, ok_told, err_taken, directory_reader}
use Rattle.handle_requests.proofs.sources.answer_of_directory.Goals as goal

pub returns-in_err-owed-clause-err : goal.returns-in_err-owed-clause-err
returns-in_err-owed-clause-err c =
    let p = err_from_is_err_and c.from_residual.result c.from_residual.ensures.1 in
    rw (p.1, p.2) (owed_told c.answers_are_read.ensures (content_in c.args.tables.now) c.args.tables.now.handles.rows.next
    (subst (λ (w : Whole). RiseBetween 0 (map (λ h. h.number) (handles_in w)) w.rows.next) c.handles-handles.ensures c.handles_are_placed.ensures.rise)
    c.args.conn c.args.handle c.args.size c.args.asked.now.own.opening.now.options.wait (directory_source c.args.asked.now.own.opening.now.kind c.args.asked.now.own.opening.now.options.filter c.args.asked.now.glance.is_over c.lent_objects-objects.result)
    (directory_reader c.args.tables.now c.args.tables.now.handles.rows.next
    (subst (λ (w : Whole). RiseBetween 0 (map (λ h. h.number) (handles_in w)) w.rows.next) c.handles-handles.ensures c.handles_are_placed.ensures.rise)
    c.args.conn c.args.handle c.args.asked.now.own c.requires.own c.requires.reads c.requires.directory c.args.asked.now.glance.is_over
    c.requires.known.over
    c.lent_objects-objects.result
    (c.lent_objects-objects.ensures ∙ ap (λ (n : Named). members (content_of (standing_of n)) c.new.result) c.names.ensures ∙ ap (members (content_in c.args.tables.now)) (c.new.ensures ∙ c.target.ensures)))
    c.in_err-owed.field-0.0
    (subst (λ o. IfSome o (λ (h : OpenHandle Progress). h.reads ≡ true → (everything : List ℕ) (dead : Bool) → Refuses (answer h h.seen everything dead c.args.size) c.in_err-owed.field-0.0)) c.requires.known.topic c.in_err-owed.ensures.err))

pub answer_of-requires : goal.answer_of-requires
answer_of-requires c = ap is_directory_kind c.kind.ensures ∙ c.requires.directory

-- what is asked of, as the definitions read it
given : (c : goal.After-answer_of) → IfSome (own_handle (content_in c.args.tables.now) c.args.conn c.args.handle)
    (λ h. read_answer (content_in c.args.tables.now) h c.args.size ≡ answer_by (directory_source c.kind.result (option_copied c.filter.result) c.args.asked.now.glance.is_over c.lent_objects-objects.result) c.waits.result c.args.size c.in_ok-owed.owed)
given c =
    subst (λ (a : Answer). IfSome (own_handle (content_in c.args.tables.now) c.args.conn c.args.handle) (λ h. read_answer (content_in c.args.tables.now) h c.args.size ≡ a))
    (λ i. answer_by (directory_source (sym c.kind.ensures i) (sym c.filter.ensures i) c.args.asked.now.glance.is_over c.lent_objects-objects.result) (sym c.waits.ensures i) c.args.size c.in_ok-owed.owed)
    (answer_told c.answers_are_read.ensures (content_in c.args.tables.now) c.args.tables.now.handles.rows.next
    (subst (λ (w : Whole). RiseBetween 0 (map (λ h. h.number) (handles_in w)) w.rows.next) c.handles-handles.ensures c.handles_are_placed.ensures.rise)
    c.args.conn c.args.handle c.args.size c.args.asked.now.own.opening.now.options.wait (directory_source c.args.asked.now.own.opening.now.kind c.args.asked.now.own.opening.now.options.filter c.args.asked.now.glance.is_over c.lent_objects-objects.result)
    (directory_reader c.args.tables.now c.args.tables.now.handles.rows.next
    (subst (λ (w : Whole). RiseBetween 0 (map (λ h. h.number) (handles_in w)) w.rows.next) c.handles-handles.ensures c.handles_are_placed.ensures.rise)
    c.args.conn c.args.handle c.args.asked.now.own c.requires.own c.requires.reads c.requires.directory c.args.asked.now.glance.is_over
    c.requires.known.over
    c.lent_objects-objects.result
    (c.lent_objects-objects.ensures ∙ ap (λ (n : Named). members (content_of (standing_of n)) c.new.result) c.names.ensures ∙ ap (members (content_in c.args.tables.now)) (c.new.ensures ∙ c.target.ensures)))
    c.in_ok-owed.owed
    (subst (λ o. IfSome o (λ (h : OpenHandle Progress). h.reads ≡ true → Owes c.args.size h h.seen c.in_ok-owed.owed)) c.requires.known.topic c.in_ok-owed.ensures.ok))

pub returns-clause-ok : goal.returns-clause-ok
returns-clause-ok c = ok_told (content_in c.args.tables.now) (own_handle (content_in c.args.tables.now) c.args.conn c.args.handle) c.args.size
    (answer_by (directory_source c.kind.result (option_copied c.filter.result) c.args.asked.now.glance.is_over c.lent_objects-objects.result) c.waits.result c.args.size c.in_ok-owed.owed)
    c.answer_of.result c.answer_of.ensures.ok (given c)

pub returns-clause-err : goal.returns-clause-err
returns-clause-err c = err_taken (content_in c.args.tables.now) (own_handle (content_in c.args.tables.now) c.args.conn c.args.handle) c.args.size
    (answer_by (directory_source c.kind.result (option_copied c.filter.result) c.args.asked.now.glance.is_over c.lent_objects-objects.result) c.waits.result c.args.size c.in_ok-owed.owed)
    c.answer_of.result c.answer_of.ensures.refusal c.answer_of.ensures.memory (given c)
