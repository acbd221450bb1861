use Rattle.std.proofs.Common.{◌≡◌, ◌≤◌, length}
use Rattle.pps_types.specs.Device.{device_inner, device_failed, device_stalls}
use Rattle.pps_types.specs.Exchange.{input_of, output_of, held_in}
use Rattle.script_text.specs.Script.{whole_lines}
use Rattle.pps_script.specs.BadLines.{passed, ReportsUpTo}
use Rattle.pps_script.specs.Lines.{count_of}
use Rattle.pps_script.proofs.Texts.{RunsOn}
use Rattle.pps_script.proofs.session.Session.run_lines.Given as goal

abbrev pub invariant-lines : goal.invariant-lines
invariant-lines g l = record {
  shorter : length l.rest ≤ length l.text;
  manner : l.self.manner ≡ l.fn.self.manner;
  on : RunsOn l.fn.self.manner (count_of l.fn.self) (count_of l.self) (g.W.Write.contents (device_inner (output_of l.fn.exchange))) (held_in l.fn.exchange)
      (g.W.Write.contents (device_inner (output_of l.exchange))) (held_in l.exchange) l.fn.engine.content l.engine.content l.text l.rest;
  failed : device_failed (output_of l.exchange) ≡ device_failed (output_of l.fn.exchange);
  stalls : device_stalls (output_of l.exchange) ≡ device_stalls (output_of l.fn.exchange);
  input : input_of l.exchange ≡ input_of l.fn.exchange;
  reports : ReportsUpTo g.B.BadLines.reports l.fn.bad_lines l.bad_lines (passed l.fn.self.manner.patient (count_of l.fn.self) (whole_lines l.text))
      (passed l.fn.self.manner.patient (count_of l.self) (whole_lines l.rest));
}

abbrev pub decreases-lines : goal.decreases-lines
decreases-lines g l = length l.rest
