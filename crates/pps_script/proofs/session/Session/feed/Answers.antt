use Rattle.std.proofs.Common.{◌++◌, ◌+◌, take, drop, arith, sym, ap, ◌∙◌}
use Rattle.std.proofs.lemmas.List.{take_rest}
use Rattle.std.proofs.lemmas.Result.{err_from_is_err_and}
use Rattle.pps_types.specs.Device.{device_inner}
use Rattle.pps_types.specs.Exchange.{output_of, held_in}
use Rattle.pps_script.specs.Lines.{count_of}
use Rattle.pps_script.specs.declared.manner.Manner.{Manner}
use Rattle.script_text.proofs.Pieces.{none-behind}
use Rattle.pps_script.proofs.Searches.{found, missing}
use Rattle.pps_script.proofs.Reported.{first-none, feeds-first, feeds-none, feeds-on}
use Rattle.pps_script.proofs.Texts.{none-served, feeds-part, feeds-bad, feeds-rest}
use Rattle.pps_script.proofs.session.Session.feed.Goals as goal

pub returns-in_err-extend_from_slice-clause-runs : goal.returns-in_err-extend_from_slice-clause-runs
returns-in_err-extend_from_slice-clause-runs g c =
    let p = err_from_is_err_and c.from_residual.result c.from_residual.ensures.1 in
    rw (p.1, p.2) (none-served _ _ _ _ _ (c.args.part.now.items ++ c.args.piece.now))

pub returns-in_default-clause-part : goal.returns-in_default-clause-part
returns-in_default-clause-part g c =
    rw c.in_ok-extend_from_slice.ensures.items (none-behind 10 c.args.part.now.items c.args.piece.now c.requires
    (sym (missing c.args.piece.now c.memchr.result c.memchr.ensures c.in_default.is)))

pub returns-in_default-clause-runs : goal.returns-in_default-clause-runs
returns-in_default-clause-runs g c =
    rw c.in_ok-extend_from_slice.ensures.items (feeds-part _ _ _ _ _ c.args.part.now.items c.args.piece.now (omega arith) c.requires
    (missing c.args.piece.now c.memchr.result c.memchr.ensures c.in_default.is))

pub returns-in_err-extend_from_slice-2-clause-runs : goal.returns-in_err-extend_from_slice-2-clause-runs
returns-in_err-extend_from_slice-2-clause-runs g c =
    let p = err_from_is_err_and c.from_residual-in_err-extend_from_slice-2.result c.from_residual-in_err-extend_from_slice-2.ensures.1 in
    rw (p.1, p.2) (none-served _ _ _ _ _ (c.args.part.now.items ++ c.args.piece.now))

pub returns-in_err-run_line-clause-runs : goal.returns-in_err-run_line-clause-runs
returns-in_err-run_line-clause-runs g c =
    let p = err_from_is_err_and c.from_residual-in_err-run_line.result c.from_residual-in_err-run_line.ensures.1 in
    let piece = c.args.piece.now in
    let end = c.in-Some.end in
    rw (p.1, p.2)
    (feeds-bad c.args.self.now.manner (count_of c.args.self.now) (count_of c.run_line.new.self) (g.W.Write.contents (device_inner (output_of c.args.exchange.now)))
    (g.W.Write.contents (device_inner (output_of c.run_line.new.exchange))) (g.W.Write.contents (device_inner (output_of c.run_line.new.exchange)))
    (held_in c.args.exchange.now) (held_in c.run_line.new.exchange) (held_in c.run_line.new.exchange) c.args.engine.now.content c.run_line.new.engine.content c.run_line.new.engine.content
    c.args.part.now.items piece c.as_slice.result.now (take end piece) (drop (end + 1) piece) c.requires
    (found piece c.memchr.result end c.memchr.ensures c.in-Some.is) (c.as_slice.ensures.value ∙ c.in_ok-extend_from_slice-2.ensures.items)
    c.in_err-run_line.field-0.0 c.in_err-run_line.ensures.runs)

pub returns-clause-runs : goal.returns-clause-runs
returns-clause-runs g c =
    let piece = c.args.piece.now in
    let end = c.in-Some.end in
    feeds-rest _ c.args.self.now.manner c.run_line.new.self.manner (count_of c.args.self.now) (count_of c.run_line.new.self) (count_of c.begin-2.new.self)
    (g.W.Write.contents (device_inner (output_of c.args.exchange.now))) (g.W.Write.contents (device_inner (output_of c.run_line.new.exchange))) (g.W.Write.contents (device_inner (output_of c.begin-2.new.exchange)))
    (held_in c.args.exchange.now) (held_in c.run_line.new.exchange) (held_in c.begin-2.new.exchange) c.args.engine.now.content c.run_line.new.engine.content c.begin-2.new.engine.content
    c.args.part.now.items piece c.as_slice.result.now (take end piece) (drop (end + 1) piece) c.begin-2.new.part.items c.begin-2.result c.requires
    (found piece c.memchr.result end c.memchr.ensures c.in-Some.is) (c.as_slice.ensures.value ∙ c.in_ok-extend_from_slice-2.ensures.items)
    c.run_line.ensures.manner c.run_line.ensures.count c.in_ok-run_line.ensures.runs (rw take_rest at c.begin-2.ensures.runs)

pub returns-in_err-extend_from_slice-clause-reports : goal.returns-in_err-extend_from_slice-clause-reports
returns-in_err-extend_from_slice-clause-reports g c =
    let p = err_from_is_err_and c.from_residual.result c.from_residual.ensures.1 in
    rw p.1 (first-none _ _ _)

pub returns-in_default-clause-reports : goal.returns-in_default-clause-reports
returns-in_default-clause-reports g c =
    feeds-none _ _ (count_of c.args.self.now) _ c.args.part.now.items c.args.piece.now c.requires (missing c.args.piece.now c.memchr.result c.memchr.ensures c.in_default.is)

pub returns-in_err-extend_from_slice-2-clause-reports : goal.returns-in_err-extend_from_slice-2-clause-reports
returns-in_err-extend_from_slice-2-clause-reports g c =
    let p = err_from_is_err_and c.from_residual-in_err-extend_from_slice-2.result c.from_residual-in_err-extend_from_slice-2.ensures.1 in
    rw p.1 (first-none _ _ _)

pub returns-in_err-run_line-clause-reports : goal.returns-in_err-run_line-clause-reports
returns-in_err-run_line-clause-reports g c =
    let p = err_from_is_err_and c.from_residual-in_err-run_line.result c.from_residual-in_err-run_line.ensures.1 in
    let piece = c.args.piece.now in
    let end = c.in-Some.end in
    rw p.1
    (feeds-first _ _ (count_of c.args.self.now) _ _ c.args.part.now.items piece c.as_slice.result.now (take end piece) (drop (end + 1) piece) c.requires
    (found piece c.memchr.result end c.memchr.ensures c.in-Some.is) (c.as_slice.ensures.value ∙ c.in_ok-extend_from_slice-2.ensures.items) (omega arith)
    c.in_err-run_line.ensures.reports)

pub returns-clause-reports : goal.returns-clause-reports
returns-clause-reports g c =
    let piece = c.args.piece.now in
    let end = c.in-Some.end in
    feeds-on _ _ (count_of c.args.self.now) _ _ c.args.part.now.items piece c.as_slice.result.now (take end piece) (drop (end + 1) piece) c.requires
    (found piece c.memchr.result end c.memchr.ensures c.in-Some.is) (c.as_slice.ensures.value ∙ c.in_ok-extend_from_slice-2.ensures.items) (omega arith)
    _ c.run_line.new.self.manner.patient (count_of c.run_line.new.self) _ c.begin-2.result (ap (λ (m : Manner). m.patient) c.run_line.ensures.manner) c.run_line.ensures.count
    c.in_ok-run_line.ensures.reports (rw take_rest at c.begin-2.ensures.reports)
