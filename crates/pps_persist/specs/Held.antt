-- What a loader holds of the entries that were read.
use Rattle.std.specs.Prelude.{◌≡◌, ◌≤◌, ◌<◌, ◌+◌, ℕ, List, [], ◌∷◌, ◌++◌, true, false, ◌&&◌, nat_le, length, map, Result, Ok, Err, Some, None}
use Rattle.std.specs.List.{list_all}
use Rattle.std.specs.Ordering.{is_lt}
use Rattle.pps_types.specs.Bytes.{is_empty}
use Rattle.pps_types.specs.Text.{print_lines}
use Rattle.pps_types.specs.Names.{Path, path_cmp}
use Rattle.pps_types.specs.Machine.{content_of}
use Rattle.pps_types.specs.Stands.{Stands}
use Rattle.pps_types.specs.Image as image
use Rattle.pps_types.specs.Image.{Image, Saved, SavedDirectory, SavedObject, SavedLine, path_of, as_line, may_follow, with_entry, in_object, attribute_line, First, Between, Behind, IsImage, started}
use Rattle.image_laws.specs.Images.{read_all, HasText, IsPrintable}
use Rattle.pps_engine.specs.Serving.{Serving}
use Rattle.pps_persist.specs.declared.errors.Fault.{Fault}
use Rattle.pps_persist.specs.declared.errors.Fault.TheVariants.{OutOfMemory, Refused}
use Rattle.pps_persist.specs.declared.place.Loaded.{Loaded}
use Rattle.pps_persist.specs.declared.place.Object.{Object}
use Rattle.pps_persist.specs.declared.place.Place.{Place}
use Rattle.pps_persist.specs.declared.place.Place.TheVariants as places

-- the image of what was read so far
abbrev pub image_of : image.Loaded → Image
image_of r = record { default_limit = r.default_limit; entries = r.entries }

-- these entries are an image's, and the engine stands for what they start
pub record Holds (r : image.Loaded) (l : Loaded) : Type 0 where
  pub follow : IsImage (image_of r)
  pub printable : IsPrintable (image_of r)
  pub content : l.engine.content ≡ content_of (started (image_of r))
  pub unused : l.engine.content.handles ≡ []
  pub longest : r.longest ≡ l.longest
  pub most : l.longest ≤ 65536
  pub count : l.count ≡ length r.entries
  pub last : (p : Path) → is_empty p ≡ false → list_all (λ x. is_lt (path_cmp (path_of x) p)) r.entries ≡ is_lt (path_cmp l.last.items p)

-- the last entry is an object of which some lines were read
pub record HoldsObject (r : image.Loaded) (path : Path) (before : List SavedLine) (l : Loaded) (o : Object) : Type 0 where
  pub follow : IsImage (image_of r)
  pub printable : IsPrintable (image_of r)
  pub follows : may_follow r.entries (SavedObject path []) ≡ true
  pub has : HasText 65536 (SavedObject path before)
  pub few : length before + o.to_come ≤ 1024
  pub text : o.text ≡ length (print_lines (map as_line before))
  pub short : o.text ≤ 65536
  pub last : l.last.items ≡ path
  pub holds : Holds (with_entry r (SavedObject path before)) l

-- ---- behind these lines

pub record IsBetween (lines : List (List ℕ)) (l : Loaded) : Type 0 where
  pub r : image.Loaded
  pub reads : read_all First lines ≡ Some (Between r)
  pub holds : Holds r l

pub record IsWithin (lines : List (List ℕ)) (l : Loaded) (o : Object) : Type 0 where
  pub r : image.Loaded
  pub path : Path
  pub before : List SavedLine
  pub reads : read_all First lines ≡ Some (in_object r path before o.to_come)
  pub holds : HoldsObject r path before l o

pub record IsBehind (lines : List (List ℕ)) (engine : Serving) : Type 0 where
  pub image : Image
  pub reads : read_all First lines ≡ Some (Behind image)
  pub stands : Stands engine.content (started image)

abbrev pub IsAt : List (List ℕ) → Place → Type 0
IsAt lines places.First = lines ≡ []
IsAt lines (places.Between l) = IsBetween lines l
IsAt lines (places.Within l o) = IsWithin lines l o × (0 < o.to_come)
IsAt lines (places.Behind engine) = IsBehind lines engine

-- some lines lead there
pub record IsPlace (place : Place) : Type 0 where
  pub lines : List (List ℕ)
  pub at : IsAt lines place

-- ---- what a step does

-- what is asked of what was loaded, whatever the lines
pub record IsLoaded (l : Loaded) : Type 0 where
  pub unused : l.engine.content.handles ≡ []
  pub few : l.count ≤ 131070
  pub most : l.longest ≤ 65536

-- and of an object within which one stands
pub record IsLoadedObject (l : Loaded) (o : Object) : Type 0 where
  pub unused : l.engine.content.handles ≡ []
  pub most : l.longest ≤ 65536
  pub short : o.text ≤ 65536
  pub some : 0 < o.to_come

abbrev pub AddsDirectory : Loaded → Path → Result Loaded Fault → Type 0
AddsDirectory old path (Ok new) = (r : image.Loaded) → Holds r old → (may_follow r.entries (SavedDirectory path) ≡ true) × Holds (with_entry r (SavedDirectory path)) new
AddsDirectory old path (Err OutOfMemory) = Unit {0}
AddsDirectory old path (Err Refused) = (r : image.Loaded) → Holds r old → may_follow r.entries (SavedDirectory path) ≡ false

abbrev pub AddsObject : Loaded → Path → ℕ → Result Loaded Fault → Type 0
AddsObject old path count (Ok new) = (r : image.Loaded) → Holds r old
    → ((may_follow r.entries (SavedObject path []) && nat_le count 1024) ≡ true) × HoldsObject r path [] new (record { to_come = count; text = 0 })
AddsObject old path count (Err OutOfMemory) = Unit {0}
AddsObject old path count (Err Refused) = (r : image.Loaded) → Holds r old → (may_follow r.entries (SavedObject path []) && nat_le count 1024) ≡ false

-- a line of the last entry, which is an object
abbrev pub AddsLine : Loaded → Object → List ℕ → Result (Loaded × Object) Fault → Type 0
AddsLine old o l (Ok new) = (r : image.Loaded) (path : Path) (before : List SavedLine) → HoldsObject r path before old o
    → (a : SavedLine) × (attribute_line r path before o.to_come l ≡ Some (in_object r path (before ++ a ∷ []) new.1.to_come)) × HoldsObject r path (before ++ a ∷ []) new.0 new.1
AddsLine old o l (Err OutOfMemory) = Unit {0}
AddsLine old o l (Err Refused) = (r : image.Loaded) (path : Path) (before : List SavedLine) → HoldsObject r path before old o → attribute_line r path before o.to_come l ≡ None

-- one more line
abbrev pub Takes : Place → List ℕ → Result Place Fault → Type 0
Takes old l (Ok new) = (lines : List (List ℕ)) → IsAt lines old → IsAt (lines ++ l ∷ []) new
Takes old l (Err OutOfMemory) = Unit {0}
Takes old l (Err Refused) = (lines : List (List ℕ)) → IsAt lines old → read_all First (lines ++ l ∷ []) ≡ None
