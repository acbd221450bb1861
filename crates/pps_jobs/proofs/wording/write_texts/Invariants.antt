use Rattle.std.proofs.Common.{◌≡◌, [], take}
use Rattle.pps_types.specs.Device.{device_inner, device_failed, device_stalls}
use Rattle.pps_types.specs.Writing.{Holds}
use Rattle.pps_jobs.specs.Wording.{texts_joined}
use Rattle.pps_jobs.proofs.wording.write_texts.Given as goal

-- those before are written, and no call of the writer failed
abbrev pub invariant-texts : goal.invariant-texts
invariant-texts g l = record {
  written : Holds (g.E.Write.contents (device_inner l.initial.errors)) (g.E.Write.contents (device_inner l.errors)) [] (texts_joined (take l.text-index l.texts));
  failed : device_failed l.errors ≡ device_failed l.initial.errors;
  stalls : device_stalls l.errors ≡ device_stalls l.initial.errors;
}
