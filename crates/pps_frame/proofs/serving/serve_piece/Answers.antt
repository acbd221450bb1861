use Rattle.std.proofs.Common.{subst, List}
use Rattle.std.proofs.lemmas.Result.{err_from_is_err_and}
use Rattle.pps_types.specs.declared.event.Event.{Event}
use Rattle.pps_types.specs.Device.{device_inner}
use Rattle.pps_types.specs.Exchange.{output_of, held_in}
use Rattle.pps_frame.specs.Sent.{ServesPart}
use Rattle.pps_frame.proofs.Streams.{piece-stops, piece-refused}
use Rattle.pps_frame.proofs.serving.serve_piece.Goals as goal

pub returns-in-Err-clause-served : goal.returns-in-Err-clause-served
returns-in-Err-clause-served g c = piece-refused _ _ _ _

pub returns-in_err-serve_all-in-Ok-clause-served : goal.returns-in_err-serve_all-in-Ok-clause-served
returns-in_err-serve_all-in-Ok-clause-served g c =
    let p = err_from_is_err_and c.from_residual.result c.from_residual.ensures.1 in
    let before = g.W.Write.contents (device_inner (output_of c.args.exchange.now)) in
    let after = g.W.Write.contents (device_inner (output_of c.serve_all.new.exchange)) in
    let held = held_in c.args.exchange.now in
    let left = held_in c.serve_all.new.exchange in
    let fault = c.in_err-serve_all-in-Ok.field-0.0 in
    rw (p.1, p.2)
    (piece-stops fault before after held left c.args.engine.now.content c.serve_all.new.engine.content _ _ _ _ c.in-Ok.ensures.fed
    (subst (λ (events : List Event). ServesPart fault before held after left c.args.engine.now.content c.serve_all.new.engine.content events)
    c.deref.ensures.value c.in_err-serve_all-in-Ok.ensures.served))
