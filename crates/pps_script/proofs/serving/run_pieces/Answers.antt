use Rattle.std.proofs.Common.{◌++◌, take, arith, refl, sym, ap, subst, ◌∙◌}
use Rattle.std.proofs.lemmas.Result.{err_from_is_err_and}
use Rattle.pps_types.specs.Device.{device_inner, device_failed, device_reads, device_stalls}
use Rattle.pps_types.specs.Exchange.{input_of, output_of, held_in}
use Rattle.pps_types.proofs.KnownBytes.{Consumes-none, keeps_itself}
use Rattle.pps_types.proofs.Writing.{or_false}
use Rattle.pps_script.specs.Lines.{IsPart, count_of}
use Rattle.pps_script.proofs.Searches.{read-none}
use Rattle.script_text.specs.Script.{whole_lines}
use Rattle.pps_script.specs.BadLines.{passed, ReportsEach, ReportsFirst}
use Rattle.pps_script.specs.declared.manner.Manner.{Manner}
use Rattle.pps_script.proofs.Texts.{so_far-none, so_far-sent, so_far-moved, so_far-unsent, so_far-more, so_far-stop, so_far-whole, so_far-finish, ends-input, text-shown, end-shown}
use Rattle.pps_script.proofs.serving.run_pieces.Goals as goal

pub pieces-init : goal.pieces-init
pieces-init g c = rw c.requires.held (record {
  room = c.requires.room;
  part = subst IsPart (sym c.requires.begins) refl;
  manner = refl;
  far = so_far-none _ _ _ _ _ _ _ c.args.part.now.items c.requires.count c.requires.begins;
  reader = c.requires.input;
  writer = c.requires.output;
  reads = omega arith;
  stalls = refl;
})

pub returns-in_err-send-clause-runs : goal.returns-in_err-send-clause-runs
returns-in_err-send-clause-runs g c =
    let p = err_from_is_err_and c.from_residual.result c.from_residual.ensures.1 in
    rw (p.1, p.2)
    (so_far-unsent _ _ _ _ _ _ _ _ _ _ _ _ _ c.pieces.invariant.far _ _ (held_in c.send.new.self) (ap (λ d. g.R.Read.remaining (device_inner d)) c.send.ensures.input) c.in_err-send.ensures.bytes)

pub returns-in-Ok-eq0-clause-runs : goal.returns-in-Ok-eq0-clause-runs
returns-in-Ok-eq0-clause-runs g c =
    let remaining = g.R.Read.remaining in
    let contents = g.W.Write.contents in
    let here = remaining (device_inner (input_of c.send.new.self)) in
    let middle = contents (device_inner (output_of c.read.new.self)) in
    let sent = so_far-sent _ _ _ _ _ _ _ _ _ _ _ _ _ c.pieces.invariant.far _ (held_in c.send.new.self) c.in_ok-send.ensures.bytes.0 c.in_ok-send.ensures.bytes.1 in
    let far = so_far-moved _ _ _ _ _ _ _ _ _ _ _ _ _ sent here middle (held_in c.read.new.self) (ap (λ d. remaining (device_inner d)) c.send.ensures.input)
    (ap (λ d. contents (device_inner d)) c.read.ensures.output) (c.read.ensures.held ∙ sym c.in_ok-send.ensures.bytes.1) in
    let ended = read-none here (remaining (device_inner (input_of c.read.new.self))) c.read.result c.read.new.buf c.in-Ok-eq0.field-0 c.read.ensures.bytes c.in-Ok-eq0.is c.in-Ok-eq0.field-0-test
    (omega (arith, c.pieces.invariant.room, c.read.auto.buf)) in
    let to = ap (λ d. remaining (device_inner d)) c.finish.ensures.input in
    so_far-finish _ _ _ _ _ c.args.session.now.manner c.pieces.session.manner _ here _ middle (held_in c.read.new.self) _ c.pieces.engine.content (count_of c.pieces.session) c.pieces.part.items
    _ _ (held_in c.finish.new.exchange) c.finish.new.engine.content c.finish.result far c.pieces.invariant.manner (rw to ended.0) (rw to ended.1)
    (rw c.as_slice.ensures.value at c.finish.ensures.runs) (rw c.as_slice.ensures.value at c.finish.ensures.reports)

pub returns-in-Err-clause-runs : goal.returns-in-Err-clause-runs
returns-in-Err-clause-runs g c =
    let remaining = g.R.Read.remaining in
    let contents = g.W.Write.contents in
    let here = remaining (device_inner (input_of c.send.new.self)) in
    let middle = contents (device_inner (output_of c.read.new.self)) in
    let sent = so_far-sent _ _ _ _ _ _ _ _ _ _ _ _ _ c.pieces.invariant.far _ (held_in c.send.new.self) c.in_ok-send.ensures.bytes.0 c.in_ok-send.ensures.bytes.1 in
    let far = so_far-moved _ _ _ _ _ _ _ _ _ _ _ _ _ sent here middle (held_in c.read.new.self) (ap (λ d. remaining (device_inner d)) c.send.ensures.input)
    (ap (λ d. contents (device_inner d)) c.read.ensures.output) (c.read.ensures.held ∙ sym c.in_ok-send.ensures.bytes.1) in
    so_far-whole _ _ _ _ _ _ _ _ _ _ _ _ _ far _ (Consumes-none here _ c.in-Err.ensures.bytes) c.read.ensures.held

pub returns-in_err-feed-clause-runs : goal.returns-in_err-feed-clause-runs
returns-in_err-feed-clause-runs g c =
    let p = err_from_is_err_and c.from_residual-in_err-feed.result c.from_residual-in_err-feed.ensures.1 in
    let remaining = g.R.Read.remaining in
    let contents = g.W.Write.contents in
    let here = remaining (device_inner (input_of c.send.new.self)) in
    let middle = contents (device_inner (output_of c.read.new.self)) in
    let sent = so_far-sent _ _ _ _ _ _ _ _ _ _ _ _ _ c.pieces.invariant.far _ (held_in c.send.new.self) c.in_ok-send.ensures.bytes.0 c.in_ok-send.ensures.bytes.1 in
    let far = so_far-moved _ _ _ _ _ _ _ _ _ _ _ _ _ sent here middle (held_in c.read.new.self) (ap (λ d. remaining (device_inner d)) c.send.ensures.input)
    (ap (λ d. contents (device_inner d)) c.read.ensures.output) (c.read.ensures.held ∙ sym c.in_ok-send.ensures.bytes.1) in
    let to = ap (λ d. remaining (device_inner d)) c.feed.ensures.input in
    rw (p.1, p.2)
    (ends-input (Unit {0}) _ _ _ _ _ _ _ _ _ c.in_err-feed.field-0.0
    (so_far-stop _ _ _ _ _ _ _ _ _ _ _ _ _ far _ _ (held_in c.feed.new.exchange) c.feed.new.engine.content (take c.in-Ok.count c.read.new.buf) (rw to c.in-Ok.ensures.bytes.0) c.in_err-feed.field-0.0 _
    (end-shown _ _ c.pieces.invariant.manner c.in_err-feed.ensures.runs)
    (subst (λ (m : Manner). ReportsFirst g.B.BadLines.reports c.pieces.bad_lines c.feed.new.bad_lines (passed m.patient (count_of c.pieces.session) (whole_lines (c.pieces.part.items ++ take c.in-Ok.count c.read.new.buf))))
    c.pieces.invariant.manner c.in_err-feed.ensures.reports)))

pub pieces-preserved : goal.pieces-preserved
pieces-preserved g c =
    let remaining = g.R.Read.remaining in
    let contents = g.W.Write.contents in
    let here = remaining (device_inner (input_of c.send.new.self)) in
    let middle = contents (device_inner (output_of c.read.new.self)) in
    let sent = so_far-sent _ _ _ _ _ _ _ _ _ _ _ _ _ c.pieces.invariant.far _ (held_in c.send.new.self) c.in_ok-send.ensures.bytes.0 c.in_ok-send.ensures.bytes.1 in
    let far = so_far-moved _ _ _ _ _ _ _ _ _ _ _ _ _ sent here middle (held_in c.read.new.self) (ap (λ d. remaining (device_inner d)) c.send.ensures.input)
    (ap (λ d. contents (device_inner d)) c.read.ensures.output) (c.read.ensures.held ∙ sym c.in_ok-send.ensures.bytes.1) in
    let to = ap (λ d. remaining (device_inner d)) c.feed.ensures.input in
    record {
      room = omega (arith, c.pieces.invariant.room, c.read.auto.buf);
      part = c.in_ok-feed.ensures.part;
      manner = c.feed.ensures.manner ∙ c.pieces.invariant.manner;
      far = so_far-more _ _ _ _ _ _ _ _ _ _ _ _ _ far _ _ (held_in c.feed.new.exchange) c.feed.new.engine.content (take c.in-Ok.count c.read.new.buf) (rw to c.in-Ok.ensures.bytes.0) (count_of c.feed.new.self) _
          _ (text-shown _ _ c.pieces.invariant.manner c.in_ok-feed.ensures.runs)
          (subst (λ (m : Manner). ReportsEach g.B.BadLines.reports c.pieces.bad_lines c.feed.new.bad_lines (passed m.patient (count_of c.pieces.session) (whole_lines (c.pieces.part.items ++ take c.in-Ok.count c.read.new.buf))))
          c.pieces.invariant.manner c.in_ok-feed.ensures.reports);
      reader = ap device_failed c.feed.ensures.input ∙ c.in-Ok.ensures.failed ∙ or_false _ ∙ ap device_failed c.send.ensures.input ∙ c.pieces.invariant.reader;
      writer = c.in_ok-feed.ensures.fault.0 ∙ ap device_failed c.read.ensures.output ∙ c.in_ok-send.ensures.fault.0 ∙ c.pieces.invariant.writer;
      reads = omega (arith, ap device_reads c.feed.ensures.input, c.in-Ok.ensures.reads, ap device_reads c.send.ensures.input, c.pieces.invariant.reads);
      stalls = c.in_ok-feed.ensures.fault.1 ∙ ap device_stalls c.read.ensures.output ∙ c.in_ok-send.ensures.fault.1 ∙ c.pieces.invariant.stalls;
    }

pub returns-in_err-send-2-clause-runs : goal.returns-in_err-send-2-clause-runs
returns-in_err-send-2-clause-runs g c =
    let p = err_from_is_err_and c.from_residual-in_err-send-2.result c.from_residual-in_err-send-2.ensures.1 in
    rw (p.1, p.2)
    (so_far-unsent _ _ _ _ _ _ _ _ _ _ _ _ _ c.pieces.invariant.far _ _ (held_in c.send-2.new.self) (ap (λ d. g.R.Read.remaining (device_inner d)) c.send-2.ensures.input) c.in_err-send-2.ensures.bytes)

pub returns-clause-runs : goal.returns-clause-runs
returns-clause-runs g c =
    let remaining = g.R.Read.remaining in
    let contents = g.W.Write.contents in
    let here = remaining (device_inner (input_of c.send-2.new.self)) in
    let middle = contents (device_inner (output_of c.send-2.new.self)) in
    let sent = so_far-sent _ _ _ _ _ _ _ _ _ _ _ _ _ c.pieces.invariant.far _ (held_in c.send-2.new.self) c.in_ok-send-2.ensures.bytes.0 c.in_ok-send-2.ensures.bytes.1 in
    let far = so_far-moved _ _ _ _ _ _ _ _ _ _ _ _ _ sent here middle (held_in c.send-2.new.self) (ap (λ d. remaining (device_inner d)) c.send-2.ensures.input) refl refl in
    so_far-whole _ _ _ _ _ _ _ _ _ _ _ _ _ far _ (Consumes-none here here (keeps_itself here)) c.in_ok-send-2.ensures.bytes.1
