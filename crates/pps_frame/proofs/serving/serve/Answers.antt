use Rattle.std.proofs.Common.{List, ℕ, ◌++◌, subst, ◌∙◌}
use Rattle.std.proofs.lemmas.Result.{err_from_is_err_and}
use Rattle.pps_types.specs.Device.{device_inner}
use Rattle.pps_types.specs.Exchange.{output_of, held_in}
use Rattle.pps_types.specs.Frame.{answer_frame}
use Rattle.pps_types.specs.Writing.{Holds}
use Rattle.pps_frame.specs.declared.ends.RunError.TheVariants.{OutOfMemory}
use Rattle.pps_frame.specs.Faults.{of_answer}
use Rattle.pps_frame.specs.Sent.{AnswersFirst}
use Rattle.pps_frame.proofs.Taken.{serves-one, serves-part, first-none, first-refused}
use Rattle.pps_frame.proofs.serving.serve.Goals as goal

pub returns-in_err-put_outcome-clause-served : goal.returns-in_err-put_outcome-clause-served
returns-in_err-put_outcome-clause-served g c =
    let p = err_from_is_err_and c.from_residual.result c.from_residual.ensures.1 in
    let before = g.W.Write.contents (device_inner (output_of c.args.exchange.now)) in
    let held = held_in c.args.exchange.now in
    rw (p.1, p.2)
    (serves-part OutOfMemory before before held held c.args.engine.now.content c.step-answer.new.self.content c.args.event.now c.step-answer.result c.step-answer.ensures.seen
    (first-none before held (answer_frame c.args.event.now.conn c.step-answer.result)))

pub returns-in_err-answer-clause-served : goal.returns-in_err-answer-clause-served
returns-in_err-answer-clause-served g c =
    let p = err_from_is_err_and c.from_residual-in_err-answer.result c.from_residual-in_err-answer.ensures.1 in
    let before = g.W.Write.contents (device_inner (output_of c.args.exchange.now)) in
    let after = g.W.Write.contents (device_inner (output_of c.answer.new.self)) in
    let held = held_in c.args.exchange.now in
    let left = held_in c.answer.new.self in
    let fault = c.in_err-answer.field-0.0 in
    rw (p.1, p.2)
    (serves-part (of_answer fault) before after held left c.args.engine.now.content c.step-answer.new.self.content c.args.event.now c.step-answer.result c.step-answer.ensures.seen
    (subst (λ (bytes : List ℕ). AnswersFirst (of_answer fault) before held after left bytes) (c.as_slice.ensures.value ∙ c.in_ok-put_outcome.ensures)
    (first-refused (Unit {0}) before after held left c.as_slice.result.now fault c.in_err-answer.ensures.bytes)))

pub returns-clause-served : goal.returns-clause-served
returns-clause-served g c =
    let before = g.W.Write.contents (device_inner (output_of c.args.exchange.now)) in
    let after = g.W.Write.contents (device_inner (output_of c.answer.new.self)) in
    let held = held_in c.args.exchange.now in
    let left = held_in c.answer.new.self in
    serves-one before after held left c.args.engine.now.content c.step-answer.new.self.content c.args.event.now c.step-answer.result c.step-answer.ensures.seen
    (subst (λ (bytes : List ℕ). Holds before after left (held ++ bytes)) (c.as_slice.ensures.value ∙ c.in_ok-put_outcome.ensures) c.in_ok-answer.ensures.bytes)
