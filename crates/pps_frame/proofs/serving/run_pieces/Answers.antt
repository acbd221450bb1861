use Rattle.std.proofs.Common.{◌++◌, Bool, take, arith, refl, ap, subst, ◌∙◌}
use Rattle.std.proofs.lemmas.Result.{err_from_is_err_and}
use Rattle.pps_types.specs.Device.{device_inner, device_failed, device_reads, device_stalls}
use Rattle.pps_types.specs.Exchange.{input_of, output_of, held_in}
use Rattle.pps_types.proofs.KnownBytes.{Consumes-none, keeps_itself}
use Rattle.pps_types.proofs.Writing.{or_false}
use Rattle.frame_codec.specs.declared.ends.Ended.TheVariants.{Malformed}
use Rattle.pps_frame.specs.Sent.{ServesPiece}
use Rattle.pps_frame.proofs.Streams.{goes-none, goes-sent, goes-unsent, goes-whole, goes-end, goes-on, goes-wrong, goes-stop, stopped, ends-so, partial-none, read-none}
use Rattle.pps_frame.proofs.serving.run_pieces.Goals as goal

pub pieces-init : goal.pieces-init
pieces-init g c = rw c.requires.held (record {
  room = c.requires.room;
  goes = goes-none _ _ _ _ c.new-decoder.ensures.rest;
  partial = partial-none _ c.new-decoder.ensures.rest;
  sound = c.new-decoder.ensures.failed;
  reader = c.requires.input;
  writer = c.requires.output;
  reads = omega arith;
  stalls = refl;
})

pub returns-in_err-send-clause-runs : goal.returns-in_err-send-clause-runs
returns-in_err-send-clause-runs g c =
    let p = err_from_is_err_and c.from_residual.result c.from_residual.ensures.1 in
    rw (p.1, p.2)
    (goes-unsent _ _ _ _ _ _ _ _ c.pieces.invariant.goes _ _ (held_in c.send.new.self) (ap (λ d. g.R.Read.remaining (device_inner d)) c.send.ensures.input) c.in_err-send.ensures.bytes)

pub returns-in-Ok-eq0-clause-runs : goal.returns-in-Ok-eq0-clause-runs
returns-in-Ok-eq0-clause-runs g c =
    let remaining = g.R.Read.remaining in
    let contents = g.W.Write.contents in
    let here = remaining (device_inner (input_of c.send.new.self)) in
    let to = remaining (device_inner (input_of c.read.new.self)) in
    let goes = goes-sent _ _ _ _ _ _ _ _ c.pieces.invariant.goes here _ (contents (device_inner (output_of c.read.new.self))) (held_in c.read.new.self)
    (ap (λ d. remaining (device_inner d)) c.send.ensures.input) c.in_ok-send.ensures.bytes.0 (ap (λ d. contents (device_inner d)) c.read.ensures.output) c.read.ensures.held in
    let ended = read-none here to c.read.result c.read.new.buf c.in-Ok-eq0.field-0 c.read.ensures.bytes c.in-Ok-eq0.is c.in-Ok-eq0.field-0-test
    (omega (arith, c.pieces.invariant.room, c.read.auto.buf)) in
    rw (ap (λ d. remaining (device_inner d)) c.answer_end.ensures.input)
    (ends-so _ to _ _ _ _ _ _ _ c.pieces.decoder.rest c.ended.result c.answer_end.result
    (goes-end _ here _ _ _ _ _ c.pieces.decoder.rest goes to ended.0) (c.ended.ensures.tail c.pieces.invariant.sound to ended.1) c.answer_end.ensures.bytes)

pub returns-in-Err-clause-runs : goal.returns-in-Err-clause-runs
returns-in-Err-clause-runs g c =
    let remaining = g.R.Read.remaining in
    let contents = g.W.Write.contents in
    let here = remaining (device_inner (input_of c.send.new.self)) in
    let goes = goes-sent _ _ _ _ _ _ _ _ c.pieces.invariant.goes here _ (contents (device_inner (output_of c.read.new.self))) (held_in c.read.new.self)
    (ap (λ d. remaining (device_inner d)) c.send.ensures.input) c.in_ok-send.ensures.bytes.0 (ap (λ d. contents (device_inner d)) c.read.ensures.output) c.read.ensures.held in
    goes-whole _ _ _ _ _ _ _ _ goes _ (Consumes-none here _ c.in-Err.ensures.bytes) c.read.ensures.held c.pieces.invariant.partial

pub returns-in_err-serve_piece-clause-runs : goal.returns-in_err-serve_piece-clause-runs
returns-in_err-serve_piece-clause-runs g c =
    let p = err_from_is_err_and c.from_residual-in_err-serve_piece.result c.from_residual-in_err-serve_piece.ensures.1 in
    let remaining = g.R.Read.remaining in
    let contents = g.W.Write.contents in
    let here = remaining (device_inner (input_of c.send.new.self)) in
    let goes = goes-sent _ _ _ _ _ _ _ _ c.pieces.invariant.goes here _ (contents (device_inner (output_of c.read.new.self))) (held_in c.read.new.self)
    (ap (λ d. remaining (device_inner d)) c.send.ensures.input) c.in_ok-send.ensures.bytes.0 (ap (λ d. contents (device_inner d)) c.read.ensures.output) c.read.ensures.held in
    let to = ap (λ d. remaining (device_inner d)) c.serve_piece.ensures.input in
    let fault = c.in_err-serve_piece.field-0.0 in
    rw (p.1, p.2)
    (stopped _ _ _ _ _ _ _ fault
    (goes-stop _ _ _ _ _ _ _ _ goes _ _ (held_in c.serve_piece.new.exchange) c.serve_piece.new.engine.content (take c.in-Ok.count c.read.new.buf) (rw to c.in-Ok.ensures.bytes.0) fault
    c.in_err-serve_piece.ensures.served))

pub pieces-preserved : goal.pieces-preserved
pieces-preserved g c =
    let remaining = g.R.Read.remaining in
    let contents = g.W.Write.contents in
    let here = remaining (device_inner (input_of c.send.new.self)) in
    let middle = contents (device_inner (output_of c.read.new.self)) in
    let after = contents (device_inner (output_of c.serve_piece.new.exchange)) in
    let goes = goes-sent _ _ _ _ _ _ _ _ c.pieces.invariant.goes here _ middle (held_in c.read.new.self)
    (ap (λ d. remaining (device_inner d)) c.send.ensures.input) c.in_ok-send.ensures.bytes.0 (ap (λ d. contents (device_inner d)) c.read.ensures.output) c.read.ensures.held in
    let to = ap (λ d. remaining (device_inner d)) c.serve_piece.ensures.input in
    let served = subst (λ (bad : Bool). ServesPiece middle (held_in c.read.new.self) after (held_in c.serve_piece.new.exchange) c.pieces.engine.content c.serve_piece.new.engine.content
    (c.pieces.decoder.rest ++ take c.in-Ok.count c.read.new.buf) c.serve_piece.new.decoder bad) c.if-branch.false c.in_ok-serve_piece.ensures.served in
    record {
      room = omega (arith, c.pieces.invariant.room, c.read.auto.buf);
      goes = goes-on _ _ _ _ _ _ _ _ goes _ _ (held_in c.serve_piece.new.exchange) c.serve_piece.new.engine.content (take c.in-Ok.count c.read.new.buf) (rw to c.in-Ok.ensures.bytes.0)
          c.serve_piece.new.decoder served;
      partial = (served.fed.good refl).1;
      sound = served.fed.flag;
      reader = ap device_failed c.serve_piece.ensures.input ∙ c.in-Ok.ensures.failed ∙ or_false _ ∙ ap device_failed c.send.ensures.input ∙ c.pieces.invariant.reader;
      writer = c.in_ok-serve_piece.ensures.fault.0 ∙ ap device_failed c.read.ensures.output ∙ c.in_ok-send.ensures.fault.0 ∙ c.pieces.invariant.writer;
      reads = omega (arith, ap device_reads c.serve_piece.ensures.input, c.in-Ok.ensures.reads, ap device_reads c.send.ensures.input, c.pieces.invariant.reads);
      stalls = c.in_ok-serve_piece.ensures.fault.1 ∙ ap device_stalls c.read.ensures.output ∙ c.in_ok-send.ensures.fault.1 ∙ c.pieces.invariant.stalls;
    }

pub returns-then-branch-clause-runs : goal.returns-then-branch-clause-runs
returns-then-branch-clause-runs g c =
    let remaining = g.R.Read.remaining in
    let contents = g.W.Write.contents in
    let here = remaining (device_inner (input_of c.send.new.self)) in
    let to = remaining (device_inner (input_of c.serve_piece.new.exchange)) in
    let middle = contents (device_inner (output_of c.read.new.self)) in
    let after = contents (device_inner (output_of c.serve_piece.new.exchange)) in
    let left = held_in c.serve_piece.new.exchange in
    let goes = goes-sent _ _ _ _ _ _ _ _ c.pieces.invariant.goes here _ middle (held_in c.read.new.self)
    (ap (λ d. remaining (device_inner d)) c.send.ensures.input) c.in_ok-send.ensures.bytes.0 (ap (λ d. contents (device_inner d)) c.read.ensures.output) c.read.ensures.held in
    let same = ap (λ d. remaining (device_inner d)) c.serve_piece.ensures.input in
    let served = subst (λ (bad : Bool). ServesPiece middle (held_in c.read.new.self) after left c.pieces.engine.content c.serve_piece.new.engine.content
    (c.pieces.decoder.rest ++ take c.in-Ok.count c.read.new.buf) c.serve_piece.new.decoder bad) c.if-branch.true c.in_ok-serve_piece.ensures.served in
    let wrong = goes-wrong _ _ _ _ _ _ _ _ goes to after left c.serve_piece.new.engine.content (take c.in-Ok.count c.read.new.buf) (rw same c.in-Ok.ensures.bytes.0)
    c.serve_piece.new.decoder served in
    rw (ap (λ d. remaining (device_inner d)) c.answer_end-then-branch.ensures.input)
    (ends-so _ to _ after _ left _ _ _ wrong.0 Malformed c.answer_end-then-branch.result wrong.1 wrong.2 c.answer_end-then-branch.ensures.bytes)

pub returns-in_err-send-2-clause-runs : goal.returns-in_err-send-2-clause-runs
returns-in_err-send-2-clause-runs g c =
    let p = err_from_is_err_and c.from_residual-in_err-send-2.result c.from_residual-in_err-send-2.ensures.1 in
    rw (p.1, p.2)
    (goes-unsent _ _ _ _ _ _ _ _ c.pieces.invariant.goes _ _ (held_in c.send-2.new.self) (ap (λ d. g.R.Read.remaining (device_inner d)) c.send-2.ensures.input) c.in_err-send-2.ensures.bytes)

pub returns-clause-runs : goal.returns-clause-runs
returns-clause-runs g c =
    let remaining = g.R.Read.remaining in
    let contents = g.W.Write.contents in
    let here = remaining (device_inner (input_of c.send-2.new.self)) in
    let goes = goes-sent _ _ _ _ _ _ _ _ c.pieces.invariant.goes here _ (contents (device_inner (output_of c.send-2.new.self))) (held_in c.send-2.new.self)
    (ap (λ d. remaining (device_inner d)) c.send-2.ensures.input) c.in_ok-send-2.ensures.bytes.0 refl c.in_ok-send-2.ensures.bytes.1 in
    goes-whole _ _ _ _ _ _ _ _ goes _ (Consumes-none here here (keeps_itself here)) c.in_ok-send-2.ensures.bytes.1 c.pieces.invariant.partial
