use Rattle.std.proofs.Common.{refl, sym, ap, subst, ◌∙◌}
use Rattle.std.proofs.lemmas.Result.{err_from_is_err_and}
use Rattle.pps_types.specs.Device.{device_inner}
use Rattle.pps_types.specs.Exchange.{input_of, output_of, held_in}
use Rattle.pps_script.specs.Served.{AnswersFirst, Ran}
use Rattle.pps_script.specs.BadLines.{ReportsEach}
use Rattle.pps_script.specs.Lines.{RunsPieces}
use Rattle.pps_script.proofs.Ends.{first-none, ran-cut_off, ran-sent, ran-unsent}
use Rattle.pps_script.proofs.serving.serve_script.Goals as goal

pub returns-in_err-resize-clause-ran : goal.returns-in_err-resize-clause-ran
returns-in_err-resize-clause-ran g c =
    let p = err_from_is_err_and c.from_residual.result c.from_residual.ensures.1 in
    rw (p.1, p.2) (first-none _ _ _ _ _ refl)

pub returns-then-is_cut_off-clause-ran : goal.returns-then-is_cut_off-clause-ran
returns-then-is_cut_off-clause-ran g c =
    let remaining = g.R.Read.remaining in
    let contents = g.W.Write.contents in
    let reported = ReportsEach g.B.BadLines.reports c.args.bad_lines.now c.run_pieces-ended.new.bad_lines in
    let x = c.args.exchange.now in
    let y = c.run_pieces-ended.new.exchange in
    let new = c.run_pieces-ended.new.engine.content in
    let runs = subst (λ s. RunsPieces remaining contents s reported x y c.args.engine.now.content new c.run_pieces-ended.result) c.new-session.ensures.manner c.run_pieces-ended.ensures.runs in
    ran-cut_off _ c.args.manner reported (remaining (device_inner (input_of x))) (remaining (device_inner (input_of y))) (contents (device_inner (output_of x))) (contents (device_inner (output_of y))) (held_in y)
    c.args.engine.now.content new c.run_pieces-ended.result (sym c.is_cut_off.ensures ∙ c.if-is_cut_off.true) runs

pub returns-in_err-send-clause-ran : goal.returns-in_err-send-clause-ran
returns-in_err-send-clause-ran g c =
    let p = err_from_is_err_and c.from_residual-in_err-send.result c.from_residual-in_err-send.ensures.1 in
    let remaining = g.R.Read.remaining in
    let contents = g.W.Write.contents in
    let reported = ReportsEach g.B.BadLines.reports c.args.bad_lines.now c.run_pieces-ended.new.bad_lines in
    let x = c.args.exchange.now in
    let y = c.run_pieces-ended.new.exchange in
    let old = c.args.engine.now.content in
    let new = c.run_pieces-ended.new.engine.content in
    let before = contents (device_inner (output_of x)) in
    let after = contents (device_inner (output_of c.send.new.self)) in
    let from = remaining (device_inner (input_of x)) in
    let runs = subst (λ s. RunsPieces remaining contents s reported x y old new c.run_pieces-ended.result) c.new-session.ensures.manner c.run_pieces-ended.ensures.runs in
    rw (p.1, p.2)
    (subst (λ t. AnswersFirst c.args.manner reported from t before after old new) (sym (ap (λ d. remaining (device_inner d)) c.send.ensures.input))
    (ran-unsent c.args.manner reported from (remaining (device_inner (input_of y))) before (contents (device_inner (output_of y))) after (held_in y) old new _ c.run_pieces-ended.result
    (sym c.is_cut_off.ensures ∙ c.if-is_cut_off.false) runs c.in_err-send.ensures.bytes))

pub returns-clause-ran : goal.returns-clause-ran
returns-clause-ran g c =
    let remaining = g.R.Read.remaining in
    let contents = g.W.Write.contents in
    let reported = ReportsEach g.B.BadLines.reports c.args.bad_lines.now c.run_pieces-ended.new.bad_lines in
    let x = c.args.exchange.now in
    let y = c.run_pieces-ended.new.exchange in
    let old = c.args.engine.now.content in
    let new = c.run_pieces-ended.new.engine.content in
    let before = contents (device_inner (output_of x)) in
    let after = contents (device_inner (output_of c.send.new.self)) in
    let from = remaining (device_inner (input_of x)) in
    let runs = subst (λ s. RunsPieces remaining contents s reported x y old new c.run_pieces-ended.result) c.new-session.ensures.manner c.run_pieces-ended.ensures.runs in
    subst (λ t. Ran c.args.manner reported from t before after old new c.run_pieces-ended.result) (sym (ap (λ d. remaining (device_inner d)) c.send.ensures.input))
    (ran-sent c.args.manner reported from (remaining (device_inner (input_of y))) before (contents (device_inner (output_of y))) after (held_in y) old new _ c.run_pieces-ended.result
    (sym c.is_cut_off.ensures ∙ c.if-is_cut_off.false) runs c.in_ok-send.ensures.bytes.0)
