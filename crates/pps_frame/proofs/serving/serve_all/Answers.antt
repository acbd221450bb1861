use Rattle.std.proofs.Common.{List, ◌++◌, ◌∷◌, [], ◌+◌, take, drop, refl, subst, ap, ◌∙◌}
use Rattle.std.proofs.lemmas.List.{take-append-drop}
use Rattle.std.proofs.lemmas.Result.{err_from_is_err_and}
use Rattle.pps_types.specs.declared.event.Event.{Event}
use Rattle.pps_types.specs.Device.{device_inner}
use Rattle.pps_types.specs.Exchange.{output_of, held_in}
use Rattle.pps_frame.specs.Sent.{ServesAll, ServesPart}
use Rattle.pps_frame.proofs.Taken.{one-more, serves-none, serves-then, serves-then-part, serves-less}
use Rattle.pps_frame.proofs.serving.serve_all.Goals as goal

pub events-init : goal.events-init
events-init g c = record {
  done = serves-none _ _ _;
  failed = refl;
  stalls = refl;
  input = refl;
}

pub returns-in_err-serve-clause-served : goal.returns-in_err-serve-clause-served
returns-in_err-serve-clause-served g c =
    let p = err_from_is_err_and c.from_residual.result c.from_residual.ensures.1 in
    let contents = g.W.Write.contents in
    let before = contents (device_inner (output_of c.args.exchange.now)) in
    let middle = contents (device_inner (output_of c.events.exchange)) in
    let after = contents (device_inner (output_of c.serve.new.exchange)) in
    let held = held_in c.args.exchange.now in
    let left = held_in c.serve.new.exchange in
    let old = c.args.engine.now.content in
    let new = c.serve.new.engine.content in
    let events = c.args.events.now in
    let at = c.events.event-index in
    let event = c.event-item.result in
    let fault = c.in_err-serve.field-0.0 in
    rw (p.1, p.2)
    (subst (λ (these : List Event). ServesPart fault before held after left old new these)
    (ap (λ (these : List Event). these ++ drop (at + 1) events) (one-more events at event c.events-test.true c.event-item.is) ∙ take-append-drop (at + 1) events)
    (serves-less fault before after held left old new (take at events ++ event ∷ []) (drop (at + 1) events)
    (serves-then-part before middle after held (held_in c.events.exchange) left old c.events.engine.content new (take at events) (event ∷ [])
    c.events.invariant.done fault c.in_err-serve.ensures.served)))

pub events-preserved : goal.events-preserved
events-preserved g c =
    let contents = g.W.Write.contents in
    let before = contents (device_inner (output_of c.args.exchange.now)) in
    let middle = contents (device_inner (output_of c.events.exchange)) in
    let after = contents (device_inner (output_of c.serve.new.exchange)) in
    let held = held_in c.args.exchange.now in
    let left = held_in c.serve.new.exchange in
    let events = c.args.events.now in
    let at = c.events.event-index in
    let event = c.event-item.result in
    record {
      done = subst (λ (these : List Event). ServesAll before held after left c.args.engine.now.content c.serve.new.engine.content these)
          (one-more events at event c.events-test.true c.event-item.is)
          (serves-then before middle after held (held_in c.events.exchange) left c.args.engine.now.content c.events.engine.content c.serve.new.engine.content (take at events) (event ∷ [])
          c.events.invariant.done c.in_ok-serve.ensures.served);
      failed = c.in_ok-serve.ensures.fault.0 ∙ c.events.invariant.failed;
      stalls = c.in_ok-serve.ensures.fault.1 ∙ c.events.invariant.stalls;
      input = c.serve.ensures.input ∙ c.events.invariant.input;
    }
