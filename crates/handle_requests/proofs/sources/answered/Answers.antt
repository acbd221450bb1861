use Rattle.std.specs.Prelude.{◌≡◌, ℕ, List, Bool, true, map, IfSome}
use Rattle.std.proofs.Common.{subst}
use Rattle.std.proofs.lemmas.Result.{err_from_is_err_and}
use Rattle.pps_types.specs.Reading.{OpenHandle}
use Rattle.pps_types.specs.Rests.{Progress, answer}
use Rattle.pps_types.specs.WellFormed.{RiseBetween}
use Rattle.pps_types.specs.Content.{own_handle, read_answer}
use Rattle.open_handles.specs.Whole.{Whole, handles_in}
use Rattle.service_state.specs.Tables.{content_in}
use Rattle.whole_texts.specs.Answered.{Owes, answer_by}
use Rattle.handle_requests.specs.Reads.{Refuses}
use Rattle.handle_requests.proofs.Answered.{answer_told, owed_told, ok_told, err_told}
use Rattle.handle_requests.proofs.sources.answered.Goals as goal

told : (c : goal.After-read_answer) → IfSome (own_handle (content_in c.args.tables.now) c.args.conn c.args.handle)
    (λ h. read_answer (content_in c.args.tables.now) h c.args.size ≡ answer_by c.args.whole.now c.args.waits c.args.size c.in_ok-owed.owed)
told c = answer_told c.answers_are_read.ensures (content_in c.args.tables.now) c.args.tables.now.handles.rows.next
    (subst (λ (w : Whole). RiseBetween 0 (map (λ h. h.number) (handles_in w)) w.rows.next) c.handles-handles.ensures c.handles_are_placed.ensures.rise)
    c.args.conn c.args.handle c.args.size c.args.waits c.args.whole.now c.requires.reader c.in_ok-owed.owed
    (subst (λ o. IfSome o (λ (h : OpenHandle Progress). h.reads ≡ true → Owes c.args.size h h.seen c.in_ok-owed.owed)) c.requires.known.topic c.in_ok-owed.ensures.ok)

pub returns-in_err-owed-clause-err : goal.returns-in_err-owed-clause-err
returns-in_err-owed-clause-err c =
    let p = err_from_is_err_and c.from_residual.result c.from_residual.ensures.1 in
    rw (p.1, p.2) (owed_told c.answers_are_read.ensures (content_in c.args.tables.now) c.args.tables.now.handles.rows.next
    (subst (λ (w : Whole). RiseBetween 0 (map (λ h. h.number) (handles_in w)) w.rows.next) c.handles-handles.ensures c.handles_are_placed.ensures.rise)
    c.args.conn c.args.handle c.args.size c.args.waits c.args.whole.now c.requires.reader c.in_err-owed.field-0.0
    (subst (λ o. IfSome o (λ (h : OpenHandle Progress). h.reads ≡ true → (everything : List ℕ) (dead : Bool) → Refuses (answer h h.seen everything dead c.args.size) c.in_err-owed.field-0.0)) c.requires.known.topic c.in_err-owed.ensures.err))

pub returns-clause-ok : goal.returns-clause-ok
returns-clause-ok c = ok_told (content_in c.args.tables.now) (own_handle (content_in c.args.tables.now) c.args.conn c.args.handle) c.args.size
    (answer_by c.args.whole.now c.args.waits c.args.size c.in_ok-owed.owed) c.read_answer.result c.read_answer.ensures.ok (told c)

pub returns-clause-err : goal.returns-clause-err
returns-clause-err c = err_told (content_in c.args.tables.now) (own_handle (content_in c.args.tables.now) c.args.conn c.args.handle) c.args.size
    (answer_by c.args.whole.now c.args.waits c.args.size c.in_ok-owed.owed) c.read_answer.result c.read_answer.ensures.refusal c.read_answer.ensures.lacking (told c)
