use Rattle.std.proofs.Common.{◌≡◌, ◌-◌, ◌≤◌, false, length, take}
use Rattle.std.specs.Io.KnownBytes.{Appends}
use Rattle.pps_types.specs.Device.{device_inner, device_failed, device_stalls}
use Rattle.pps_persist.proofs.output.send.Given as goal

abbrev pub invariant-parts : goal.invariant-parts
invariant-parts g l = record {
  within : l.at ≤ length l.bytes;
  written : Appends (g.W.Write.contents (device_inner l.fn.device)) (g.W.Write.contents (device_inner l.device)) (take l.at l.bytes);
  works : device_failed l.device ≡ false;
  stalls : device_stalls l.device ≡ device_stalls l.fn.device;
}

abbrev pub decreases-parts : goal.decreases-parts
decreases-parts g l = length l.bytes - l.at
