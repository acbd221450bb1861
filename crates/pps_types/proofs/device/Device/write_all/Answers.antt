use Rattle.std.proofs.Common.{◌∙◌, arith}
use Rattle.std.proofs.lemmas.List.{take_rest, length-drop}
use Rattle.pps_types.proofs.KnownBytes.{next_part}
use Rattle.pps_types.specs.Device.{device_stalls}
use Rattle.pps_types.proofs.Writing.{no_stall, or_false}
use Rattle.pps_types.proofs.device.Device.write_all.Goals as goal

pub parts-preserved : goal.parts-preserved
parts-preserved g c =
    let contents = g.D.Write.contents in
    let r = take_rest c.args.bytes.now c.parts.at in
    record {
      within = omega (arith, rw r at c.in-Ok.ensures.bound, length-drop c.parts.at c.args.bytes.now);
      written = next_part (contents c.args.self.now.inner) (contents c.parts.self.inner) (contents c.write.new.self.inner) c.args.bytes.now c.parts.at c.in-Ok.count c.parts.invariant.written (rw r at c.in-Ok.ensures.bytes);
      failed = c.in-Ok.ensures.failed ∙ or_false _ ∙ c.parts.invariant.failed;
      reads = c.in-Ok.ensures.reads ∙ c.parts.invariant.reads;
      stalls = c.in-Ok.ensures.stalls ∙ no_stall (device_stalls c.parts.self) c.in-Ok.count _ c.in-Ok.count-test.1 ∙ c.parts.invariant.stalls;
    }
