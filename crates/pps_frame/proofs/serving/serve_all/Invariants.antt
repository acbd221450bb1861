use Rattle.std.proofs.Common.{◌≡◌, take}
use Rattle.pps_types.specs.Device.{device_inner, device_failed, device_stalls}
use Rattle.pps_types.specs.Exchange.{input_of, output_of, held_in}
use Rattle.pps_frame.specs.Sent.{ServesAll}
use Rattle.pps_frame.proofs.serving.serve_all.Given as goal

abbrev pub invariant-events : goal.invariant-events
invariant-events g l = record {
  done : ServesAll (g.W.Write.contents (device_inner (output_of l.fn.exchange))) (held_in l.fn.exchange) (g.W.Write.contents (device_inner (output_of l.exchange))) (held_in l.exchange)
      l.fn.engine.content l.engine.content (take l.event-index l.events);
  failed : device_failed (output_of l.exchange) ≡ device_failed (output_of l.fn.exchange);
  stalls : device_stalls (output_of l.exchange) ≡ device_stalls (output_of l.fn.exchange);
  input : input_of l.exchange ≡ input_of l.fn.exchange;
}
