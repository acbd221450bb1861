use Rattle.std.proofs.Common.{List, ◌++◌, ℕ, subst, arith}
use Rattle.std.proofs.lemmas.Result.{err_from_is_err_and}
use Rattle.pps_types.specs.Device.{device_inner}
use Rattle.pps_types.specs.Exchange.{output_of, held_in}
use Rattle.pps_types.specs.Writing.{Holds}
use Rattle.script_text.specs.ScriptLines.{line_of}
use Rattle.pps_script.specs.Lines.{count_of}
use Rattle.pps_script.proofs.Lines.{ends-bad, passes-bad, served-heard, unanswered-heard, served-said, holds-one, serves-one, answer-refused, holds-itself}
use Rattle.pps_script.proofs.Reported.{first-none, reports-none, reports-one}
use Rattle.pps_script.proofs.session.Session.run_line.Goals as goal

pub returns-then-not-self-clause-runs : goal.returns-then-not-self-clause-runs
returns-then-not-self-clause-runs g c =
    let bad = rw c.in-Err-BadLine.field-0-is at c.in-Err-BadLine.ensures.fault in
    record {
      number = 1;
      told = omega (arith, c.saturating_add-self.ensures);
      serves = ends-bad c.args.self.now.manner (g.W.Write.contents (device_inner (output_of c.args.exchange.now))) (held_in c.args.exchange.now)
          c.args.engine.now.content c.serve_line.new.engine.content c.args.line.now c.if-not-self.true bad.0 bad.1;
    }

pub returns-in-Err-BadLine-clause-runs : goal.returns-in-Err-BadLine-clause-runs
returns-in-Err-BadLine-clause-runs g c =
    let bad = rw c.in-Err-BadLine.field-0-is at c.in-Err-BadLine.ensures.fault in
    passes-bad c.args.self.now.manner (g.W.Write.contents (device_inner (output_of c.args.exchange.now))) (held_in c.args.exchange.now)
    c.args.engine.now.content c.serve_line.new.engine.content c.args.line.now c.if-not-self.false bad.0 bad.1

pub returns-in-Err-OutOfMemory-clause-runs : goal.returns-in-Err-OutOfMemory-clause-runs
returns-in-Err-OutOfMemory-clause-runs g c =
    let held = held_in c.args.exchange.now in
    let before = g.W.Write.contents (device_inner (output_of c.args.exchange.now)) in
    holds-one c.args.self.now.manner before before held held c.args.engine.now.content c.serve_line.new.engine.content c.args.line.now
    (unanswered-heard c.args.self.now.manner.patient (line_of c.args.line.now) _ _ (rw c.in-Err-OutOfMemory.field-0-is at c.in-Err-OutOfMemory.ensures.fault)) (holds-itself before held)

pub returns-in_err-answer-clause-runs : goal.returns-in_err-answer-clause-runs
returns-in_err-answer-clause-runs g c =
    let p = err_from_is_err_and c.from_residual.result c.from_residual.ensures.1 in
    rw (p.1, p.2)
    (answer-refused (Unit {0}) c.args.self.now.manner (count_of c.args.self.now) (g.W.Write.contents (device_inner (output_of c.args.exchange.now))) (g.W.Write.contents (device_inner (output_of c.answer.new.self)))
    (held_in c.args.exchange.now) (held_in c.answer.new.self) c.serve_line.new.text.items c.as_slice.result.now c.args.engine.now.content c.serve_line.new.engine.content c.args.line.now
    c.in_err-answer.field-0.0 (served-heard c.args.self.now.manner.patient c.args.self.now.manner.show (line_of c.args.line.now) _ _ _ c.in-Ok.ensures.served) c.as_slice.ensures.value c.in_err-answer.ensures.bytes)

pub returns-clause-runs : goal.returns-clause-runs
returns-clause-runs g c =
    serves-one c.args.self.now.manner (g.W.Write.contents (device_inner (output_of c.args.exchange.now))) (g.W.Write.contents (device_inner (output_of c.answer.new.self)))
    (held_in c.args.exchange.now) (held_in c.answer.new.self) c.serve_line.new.text.items c.args.engine.now.content c.serve_line.new.engine.content c.args.line.now
    (served-heard c.args.self.now.manner.patient c.args.self.now.manner.show (line_of c.args.line.now) _ _ _ c.in-Ok.ensures.served)
    (subst (λ (t : List ℕ). Holds (g.W.Write.contents (device_inner (output_of c.args.exchange.now))) (g.W.Write.contents (device_inner (output_of c.answer.new.self))) (held_in c.answer.new.self)
    (held_in c.args.exchange.now ++ t)) c.as_slice.ensures.value c.in_ok-answer.ensures.bytes)

pub returns-then-not-self-clause-reports : goal.returns-then-not-self-clause-reports
returns-then-not-self-clause-reports g c = first-none _ _ _

pub returns-in-Err-BadLine-clause-reports : goal.returns-in-Err-BadLine-clause-reports
returns-in-Err-BadLine-clause-reports g c =
    let bad = rw c.in-Err-BadLine.field-0-is at c.in-Err-BadLine.ensures.fault in
    reports-one _ _ (count_of c.args.self.now) _ _ _ c.args.line.now c.if-not-self.false bad.0 (omega (arith, c.saturating_add-self.ensures)) c.report.ensures

pub returns-in-Err-OutOfMemory-clause-reports : goal.returns-in-Err-OutOfMemory-clause-reports
returns-in-Err-OutOfMemory-clause-reports g c = first-none _ _ _

pub returns-in_err-answer-clause-reports : goal.returns-in_err-answer-clause-reports
returns-in_err-answer-clause-reports g c =
    let p = err_from_is_err_and c.from_residual.result c.from_residual.ensures.1 in
    rw p.1 (first-none _ _ _)

pub returns-clause-reports : goal.returns-clause-reports
returns-clause-reports g c =
    reports-none _ _ (count_of c.args.self.now) _ c.args.line.now (served-said c.args.self.now.manner.show (line_of c.args.line.now) _ _ _ c.in-Ok.ensures.served)
