-- Moves that keep what stands within its bounds.
use Rattle.std.specs.Prelude.{◌≡◌, ◌≤◌, ◌<◌, List, [], ◌∷◌, true, false, None, length}
use Rattle.std.specs.List.{AllByRecursion}
use Rattle.pps_types.specs.Names.{Path, parent, last_name, same_path}
use Rattle.pps_types.specs.History.{after_kind, text_length}
use Rattle.pps_types.specs.Reading.{is_directory_kind}
use Rattle.pps_types.specs.Content.{Content, LiveObject, subdirectories}
use Rattle.pps_types.specs.Plan.{Move, Creates, AppendsRecord, Opens, Parks, Queues, MakesDirectory, apply_seen}
use Rattle.service_laws.specs.Bounds.{IsShort, IsReadSize, IsBoundItem, crowd}

abbrev pub IsFit : Content → Move → Type 0
IsFit c (Creates o) = (length o.name ≤ 255) × (crowd c.objects o.directory < 256)
IsFit c (AppendsRecord e) = IsShort e × AllByRecursion (λ (o : LiveObject). o.object.number ≡ e.record_of.object → text_length (after_kind o.attributes e.record_of.kind) ≤ 65536) c.objects
IsFit c (Opens handle) =
    (c.next_handle < 4294967296) × (length handle.name ≤ 255) × (handle.parked ≡ None) × (is_directory_kind handle.kind ≡ true → handle.writes ≡ false)
IsFit c (Parks number size) = IsReadSize size
IsFit c (Queues conn item) = IsBoundItem item
IsFit c (MakesDirectory path) = (length (last_name path) ≤ 255) × ((p : Path) → same_path (parent path) p ≡ true → length (subdirectories c p) < 256)
IsFit c _ = Unit {0}

-- each in turn
abbrev pub AreFit : Content → List Move → Type 0
AreFit c [] = Unit {0}
AreFit c (x ∷ xs) = IsFit c x × AreFit (apply_seen x c) xs
