use Rattle.std.proofs.Common.{ap, ◌∙◌, Bool, false, arith}
use Rattle.std.specs.Prelude.{◌||◌}
use Rattle.std.proofs.lemmas.List.{take_rest, length-drop}
use Rattle.pps_types.proofs.KnownBytes.{next_part}
use Rattle.pps_types.specs.Device.{device_stalls}
use Rattle.pps_persist.proofs.Sendings.{no_stall}
use Rattle.pps_persist.proofs.output.send.Goals as goal

pub parts-preserved : goal.parts-preserved
parts-preserved g c =
    let contents = g.W.Write.contents in
    let r = take_rest c.args.bytes.now c.parts.at in
    record {
      within = omega (arith, rw r at c.in-Ok.ensures.bound, length-drop c.parts.at c.args.bytes.now);
      written = next_part (contents c.args.device.now.inner) (contents c.parts.device.inner) (contents c.write.new.self.inner) c.args.bytes.now c.parts.at c.in-Ok.count c.parts.invariant.written (rw r at c.in-Ok.ensures.bytes);
      works = c.in-Ok.ensures.failed ∙ ap (λ (b : Bool). b || false) c.parts.invariant.works;
      stalls = c.in-Ok.ensures.stalls ∙ no_stall (device_stalls c.parts.device) c.in-Ok.count _ c.in-Ok.count-test.1 ∙ c.parts.invariant.stalls;
    }
