use Rattle.std.proofs.Common.{◌≡◌, ◌++◌, false, take}
use Rattle.std.specs.Prelude.{codes}
use Rattle.std.specs.List.{flat_map}
use Rattle.std.specs.Fmt.{decimal}
use Rattle.pps_types.specs.Device.{device_inner, device_failed, device_stalls}
use Rattle.pps_types.specs.Image.{text_line, print_saved}
use Rattle.pps_persist.specs.Sent.{Prints}
use Rattle.pps_persist.proofs.saving.save_entries.Given as goal

abbrev pub invariant-entries : goal.invariant-entries
invariant-entries g l = record {
  prints : Prints (g.W.Write.contents (device_inner l.fn.device)) (g.W.Write.contents (device_inner l.device))
      (text_line (codes "PPSIMAGE 2 " ++ decimal l.default_limit) ++ flat_map print_saved (take l.entry-index l.entries)) l.output;
  works : device_failed l.device ≡ false;
  stalls : device_stalls l.device ≡ device_stalls l.fn.device;
}
