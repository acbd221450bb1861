-- Objects that are created.
use Rattle.std.specs.Prelude.{◌≡◌, ◌+◌, ◌<◌, ◌^◌, ℕ, Ok, List, [], ◌∷◌, false, None, is_some, IfSome, IsSomeAnd, map}
use Rattle.pps_types.specs.declared.found.Found.TheVariants.{Directory as FoundDirectory}
use Rattle.pps_types.specs.declared.record.Kind.TheVariants.{Deleted}
use Rattle.pps_types.specs.Names.{Path, find_at, parent, last_name}
use Rattle.pps_types.specs.Content.{Object, LiveObject, at}
use Rattle.pps_types.specs.WellFormed.{RiseBetween}
use Rattle.pps_types.specs.Plan.{Creates, AppendsRecord, creation}
use Rattle.name_table.specs.Standing.{Placed, placed_at, standing_of, content_of, IsReadyToCreate}
use Rattle.open_handles.specs.Whole.{HasRoom, IsShared, handles_in}
use Rattle.service_state.specs.declared.creating.NewObject.{NewObject}
use Rattle.service_state.specs.declared.creating.Replacement.{Replacement}
use Rattle.service_state.specs.Tables.{Tabled, content_in}
use Rattle.service_state.specs.Tied.{Moves}

-- the object that is created
abbrev pub object_of : NewObject → ℕ → Object
object_of o number = record { number = number; directory = o.directory; name = last_name o.path.items; nopersist = o.nopersist; server = o.server }

abbrev pub new_object : NewObject → Tabled → Object
new_object o t = object_of o (content_in t).next_object

-- It can be created: its path is ready and leads through its directory; it has a place, with its number, its name and its server; and
-- there is room for its record, which has shares enough.
pub record CanCreate (o : NewObject) (t : Tabled) : Type 0 where
  pub order : RiseBetween 0 (map (λ (o : LiveObject). o.object.number) (content_in t).objects) (content_in t).next_object
  pub ready : IsReadyToCreate t.names o.path.items
  pub above : find_at (at (content_of (standing_of t.names))) (parent o.path.items) ≡ Ok (FoundDirectory o.directory)
  pub last : (content_in t).next_object + 1 < 2 ^ 64
  pub place : 0 < t.handles.objects.room
  pub number : o.site.object ≡ (content_in t).next_object
  pub site : o.site.site ≡ record { name = last_name o.path.items; service = is_some o.server }
  pub record_is : o.creation.entry ≡ creation (new_object o t)
  pub room : HasRoom (o.creation.entry ∷ []) t.handles
  pub shared : IsShared o.creation.count o.creation.entry t.handles
  pub records : t.records + 1 < 2 ^ 64

-- ---- where no handle is open

-- the plain object that is created at that path, in that directory
abbrev pub plain_object : Path → ℕ → Tabled → Object
plain_object path directory t = record { number = (content_in t).next_object; directory = directory; name = last_name path; nopersist = false; server = None }

-- It can be created there, and nobody is told: its path is ready and leads through its directory, there is room for its place, and the
-- name is that of the path.
pub record CanCreateUnheard (path : Path) (directory : ℕ) (name : List ℕ) (t : Tabled) : Type 0 where
  pub order : RiseBetween 0 (map (λ (o : LiveObject). o.object.number) (content_in t).objects) (content_in t).next_object
  pub ready : IsReadyToCreate t.names path
  pub above : find_at (at (content_of (standing_of t.names))) (parent path) ≡ Ok (FoundDirectory directory)
  pub last : (content_in t).next_object + 1 < 2 ^ 64
  pub place : 0 < t.handles.objects.room
  pub named : name ≡ last_name path
  pub nobody : handles_in t.handles ≡ []
  pub records : t.records + 1 < 2 ^ 64

-- ---- in another's place

-- the object that takes the place of another
abbrev pub replacing_object : Replacement → Object → Tabled → Object
replacing_object r gone t = record { number = (content_in t).next_object; directory = gone.directory; name = gone.name; nopersist = r.nopersist; server = r.server }

-- It can take the place of this one: it has a place, with its number, the other's name and its server; and there is room for both
-- records, which have shares enough.
pub record CanReplace (r : Replacement) (t : Tabled) (gone : Placed) : Type 0 where
  pub order : RiseBetween 0 (map (λ (o : LiveObject). o.object.number) (content_in t).objects) (content_in t).next_object
  pub object_room : 0 < t.names.objects.room
  pub last : (content_in t).next_object + 1 < 2 ^ 64
  pub place : 0 < t.handles.objects.room
  pub number : r.site.object ≡ (content_in t).next_object
  pub site : r.site.site ≡ record { name = gone.object.name; service = is_some r.server }
  pub deletes : r.deletion.entry.record_of.kind ≡ Deleted
  pub deleted : r.deletion.entry.record_of.object ≡ r.object
  pub record_is : r.creation.entry ≡ creation (replacing_object r gone.object t)
  pub room : HasRoom (r.deletion.entry ∷ r.creation.entry ∷ []) t.handles
  pub deletion_shared : IsShared r.deletion.count r.deletion.entry t.handles
  pub creation_shared : IsShared r.creation.count r.creation.entry t.handles
  pub records : t.records + 1 + 1 < 2 ^ 64

-- its object is alive, and it can take that one's place
abbrev pub CanTakePlace : Replacement → Tabled → Type 0
CanTakePlace r t = IsSomeAnd (placed_at r.object t.names) (CanReplace r t)

-- it takes the place of its object, where that is alive: the one is deleted, and the other is created
abbrev pub TakesPlace : Replacement → Tabled → Tabled → Type 0
TakesPlace r old new =
    IfSome (placed_at r.object old.names) (λ gone.
    Moves (AppendsRecord r.deletion.entry ∷ Creates (replacing_object r gone.object old) ∷ []) old new)
