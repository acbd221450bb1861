use Rattle.std.proofs.Common.{◌≡◌, ◌<◌, false, length}
use Rattle.pps_types.specs.Device.{device_inner, device_failed, device_reads, device_stalls}
use Rattle.pps_types.specs.Exchange.{input_of, output_of, held_in}
use Rattle.pps_script.specs.Served.{reads_from}
use Rattle.pps_script.specs.Lines.{IsPart, count_of}
use Rattle.pps_script.proofs.Texts.{SoFar}
use Rattle.pps_script.proofs.serving.run_pieces.Given as goal

abbrev pub invariant-pieces : goal.invariant-pieces
invariant-pieces g l = record {
  room : 0 < length l.buffer;
  part : IsPart l.part.items;
  manner : l.session.manner ≡ l.fn.session.manner;
  far : SoFar g.B.BadLines.reports l.fn.bad_lines l.bad_lines l.fn.session.manner (g.R.Read.remaining (device_inner (input_of l.fn.exchange))) (g.R.Read.remaining (device_inner (input_of l.exchange)))
      (g.W.Write.contents (device_inner (output_of l.fn.exchange))) (g.W.Write.contents (device_inner (output_of l.exchange))) (held_in l.exchange)
      l.fn.engine.content l.engine.content (count_of l.session) l.part.items;
  reader : device_failed (input_of l.exchange) ≡ false;
  writer : device_failed (output_of l.exchange) ≡ false;
  reads : device_reads (input_of l.exchange) ≡ reads_from (device_reads (input_of l.fn.exchange)) l.counter;
  stalls : device_stalls (output_of l.exchange) ≡ device_stalls (output_of l.fn.exchange);
}
