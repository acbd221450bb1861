use Rattle.std.proofs.Common.{◌≡◌, ◌-◌, ◌≤◌, length, take}
use Rattle.std.specs.Io.KnownBytes.{Appends}
use Rattle.pps_types.specs.Device.{device_inner, device_failed, device_reads, device_stalls}
use Rattle.pps_types.proofs.device.Device.write_all.Given as goal

abbrev pub invariant-parts : goal.invariant-parts
invariant-parts g l = record {
  within : l.at ≤ length l.bytes;
  written : Appends (g.D.Write.contents (device_inner l.fn.self)) (g.D.Write.contents (device_inner l.self)) (take l.at l.bytes);
  failed : device_failed l.self ≡ device_failed l.fn.self;
  reads : device_reads l.self ≡ device_reads l.fn.self;
  stalls : device_stalls l.self ≡ device_stalls l.fn.self;
}

abbrev pub decreases-parts : goal.decreases-parts
decreases-parts g l = length l.bytes - l.at
