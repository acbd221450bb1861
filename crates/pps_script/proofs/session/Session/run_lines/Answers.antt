use Rattle.std.proofs.Common.{◌∷◌, [], take, arith, refl, sym, subst, ◌∙◌}
use Rattle.std.proofs.lemmas.List.{take_rest}
use Rattle.std.proofs.lemmas.Result.{err_from_is_err_and}
use Rattle.pps_types.proofs.Cuts.{length-behind}
use Rattle.pps_types.specs.Device.{device_inner}
use Rattle.pps_types.specs.Exchange.{output_of, held_in}
use Rattle.pps_script.specs.Lines.{count_of}
use Rattle.pps_script.proofs.Searches.{found, missing}
use Rattle.pps_script.specs.BadLines.{passed, ReportsEach, ReportsFirst}
use Rattle.pps_script.specs.declared.manner.Manner.{Manner}
use Rattle.pps_script.proofs.Lines.{serves-shown, ends-shown}
use Rattle.pps_script.proofs.Reported.{up_to-none, up_to-line, up_to-stop, up_to-end}
use Rattle.pps_script.proofs.Texts.{runs-start, runs-line, runs-stop, runs-end}
use Rattle.pps_script.proofs.session.Session.run_lines.Goals as goal

pub lines-init : goal.lines-init
lines-init g c = record {
  shorter = omega arith;
  manner = refl;
  on = runs-start _ _ _ _ _ c.args.text.now (omega arith);
  failed = refl;
  stalls = refl;
  input = refl;
  reports = up_to-none _ _ _;
}

pub returns-in_err-run_line-clause-ends : goal.returns-in_err-run_line-clause-ends
returns-in_err-run_line-clause-ends g c =
    let p = err_from_is_err_and c.from_residual.result c.from_residual.ensures.1 in
    let cut = found c.lines.rest.now c.memchr.result c.in-Some.end c.memchr.ensures c.in-Some.is in
    let c1 = g.W.Write.contents (device_inner (output_of c.run_line.new.exchange)) in
    let left = held_in c.run_line.new.exchange in
    let new = c.run_line.new.engine.content in
    let fault = c.in_err-run_line.field-0.0 in
    rw (p.1, p.2)
    (runs-stop _ _ _ _ _ c1 _ _ left _ _ new c.args.text.now c.lines.rest.now _ _ cut c.lines.invariant.on fault
    (ends-shown (count_of c.lines.self) (g.W.Write.contents (device_inner (output_of c.lines.exchange))) c1 (held_in c.lines.exchange) left c.lines.engine.content new
    (take c.in-Some.end c.lines.rest.now ∷ []) fault _ _ c.lines.invariant.manner c.in_err-run_line.ensures.runs))

pub lines-preserved : goal.lines-preserved
lines-preserved g c =
    let cut = found c.lines.rest.now c.memchr.result c.in-Some.end c.memchr.ensures c.in-Some.is in
    let shorter = length-behind 10 c.lines.rest.now _ _ cut in
    rw take_rest (record {
      shorter = omega (arith, shorter, c.lines.invariant.shorter);
      manner = c.run_line.ensures.manner ∙ c.lines.invariant.manner;
      on = runs-line _ _ _ _ _ _ _ _ _ _ _ _ c.args.text.now c.lines.rest.now _ _ cut c.lines.invariant.on _ c.run_line.ensures.count
          (serves-shown _ _ c.lines.invariant.manner c.in_ok-run_line.ensures.runs);
      failed = c.in_ok-run_line.ensures.fault.0 ∙ c.lines.invariant.failed;
      stalls = c.in_ok-run_line.ensures.fault.1 ∙ c.lines.invariant.stalls;
      input = c.run_line.ensures.input ∙ c.lines.invariant.input;
      reports = up_to-line _ _ (count_of c.lines.self) _ _ _ _ c.lines.rest.now _ _ (omega arith) cut c.lines.invariant.reports _ c.run_line.ensures.count
          (subst (λ (m : Manner). ReportsEach g.B.BadLines.reports c.lines.bad_lines c.run_line.new.bad_lines (passed m.patient (count_of c.lines.self) (take c.in-Some.end c.lines.rest.now ∷ [])))
          c.lines.invariant.manner c.in_ok-run_line.ensures.reports);
    })

pub returns-clause-part : goal.returns-clause-part
returns-clause-part g c = sym (missing c.lines.rest.now c.memchr.result c.memchr.ensures c.in_default.is)

pub returns-clause-serves : goal.returns-clause-serves
returns-clause-serves g c =
    runs-end _ _ _ _ _ _ _ _ _ c.args.text.now c.lines.rest.now (missing c.lines.rest.now c.memchr.result c.memchr.ensures c.in_default.is) c.lines.invariant.on

pub returns-in_err-run_line-clause-reports : goal.returns-in_err-run_line-clause-reports
returns-in_err-run_line-clause-reports g c =
    let p = err_from_is_err_and c.from_residual.result c.from_residual.ensures.1 in
    let cut = found c.lines.rest.now c.memchr.result c.in-Some.end c.memchr.ensures c.in-Some.is in
    rw p.1
    (up_to-stop _ _ (count_of c.lines.self) _ _ _ _ c.lines.rest.now _ _ (omega arith) cut c.lines.invariant.reports
    (subst (λ (m : Manner). ReportsFirst g.B.BadLines.reports c.lines.bad_lines c.run_line.new.bad_lines (passed m.patient (count_of c.lines.self) (take c.in-Some.end c.lines.rest.now ∷ [])))
    c.lines.invariant.manner c.in_err-run_line.ensures.reports))

pub returns-clause-reports : goal.returns-clause-reports
returns-clause-reports g c =
    up_to-end _ _ (count_of c.lines.self) _ _ _ c.lines.rest.now (missing c.lines.rest.now c.memchr.result c.memchr.ensures c.in_default.is) c.lines.invariant.reports
