-- What an open does, as moves, and what it wants for that.
use Rattle.std.specs.Prelude.{◌≡◌, ◌<◌, ℕ, List, [], ◌∷◌, ◌++◌, Bool, true, false, Some, None, is_some, IfSome, IsSomeAnd, if◌then◌else◌}
use Rattle.std.specs.Option.{option_map_or}
use Rattle.std.specs.List.{flat_map, list_all}
use Rattle.pps_types.specs.declared.found.Found.{Found}
use Rattle.pps_types.specs.declared.found.Found.TheVariants.{Object as FoundObject}
use Rattle.pps_types.specs.declared.record.Kind.{Kind}
use Rattle.pps_types.specs.declared.record.Kind.TheVariants.{Deleted}
use Rattle.pps_types.specs.Names.{Path, last_name}
use Rattle.pps_types.specs.Content.{object_numbered}
use Rattle.pps_types.specs.Plan.{Move, Creates, AppendsRecord, Opens as OpensHandle, entry_of}
use Rattle.sub_reader.specs.declared.opening.Opening.{Opening}
use Rattle.sub_reader.specs.Opened.{opened, number_of, suits}
use Rattle.name_table.specs.Standing.{placed_at}
use Rattle.open_handles.specs.Whole.{name_at}
use Rattle.service_state.specs.declared.beginning.Beginning.{Beginning}
use Rattle.service_state.specs.declared.creating.NewObject.{NewObject}
use Rattle.service_state.specs.declared.creating.Replacement.{Replacement}
use Rattle.service_state.specs.Beginning.{moves_of as beginning_of, AreReady, is_keeping}
use Rattle.service_state.specs.Objects.{new_object, CanCreate, replacing_object, CanReplace}
use Rattle.service_state.specs.Tables.{Tabled, content_in}
use Rattle.service_state.specs.Tied.{HasRoomForHandle, CanOpen}
use Rattle.path_requests.specs.declared.planned_open.Opens.{Opens}
use Rattle.path_requests.specs.declared.planned_open.Opens.TheVariants.{OnFound, Creating, Replacing}

-- ---- the moves

-- a handle opens on what will be the next object, under that name
abbrev pub opens_new : Tabled → List ℕ → Opening → List Move
opens_new t name opening = OpensHandle (opened (content_in t).next_object name opening) ∷ []

-- the moves that it stands for
abbrev pub moves_of : Opens → Tabled → List Move
moves_of (OnFound beginning found opening) t = flat_map beginning_of beginning.items ++ OpensHandle (opened (number_of found) (name_at found t.handles) opening) ∷ []
moves_of (Creating object opening) t = Creates (new_object object t) ∷ opens_new t (new_object object t).name opening
moves_of (Replacing replacement opening) t =
    option_map_or (λ gone. AppendsRecord replacement.deletion.entry ∷ Creates (replacing_object replacement gone.object t) ∷ opens_new t gone.object.name opening) (placed_at replacement.object t.names) []

-- a new object at that path, in that directory, and its first handle
abbrev pub creation_moves : Tabled → Path → ℕ → Bool → Bool → Opening → List Move
creation_moves t path directory nopersist is_served opening =
    Creates (record {
      number = (content_in t).next_object;
      directory = directory;
      name = last_name path;
      nopersist = nopersist;
      server = if is_served then Some (content_in t).next_handle else None;
    }) ∷ OpensHandle (opened (content_in t).next_object (last_name path) opening) ∷ []

-- after a record of that kind of the object, where that is alive, it opens on it
abbrev pub OpensWithRecord : Opens → ℕ → Kind → Opening → Tabled → Tabled → Type 0
OpensWithRecord o object kind opening old new = IfSome (object_numbered (content_in old) object) (λ known. moves_of o new
    ≡ AppendsRecord (entry_of known.object kind None) ∷ OpensHandle (opened object (name_at (FoundObject object) old.handles) opening) ∷ [])

-- where the object is alive, a server's object takes its place, and it opens on that
abbrev pub TakesOver : Opens → ℕ → Bool → Opening → Tabled → Tabled → Type 0
TakesOver o object nopersist opening old new = IfSome (object_numbered (content_in old) object) (λ known. moves_of o new
    ≡ AppendsRecord (entry_of known.object Deleted None) ∷ Creates (record {
      number = (content_in old).next_object;
      directory = known.object.directory;
      name = known.object.name;
      nopersist = nopersist;
      server = Some (content_in old).next_handle;
    }) ∷ OpensHandle (opened (content_in old).next_object known.object.name opening) ∷ [])

-- ---- what it wants

-- A handle can be opened on an object that is to come, a server's or a plain one: it has the next number and suits, and there is room
-- for it.
pub record CanOpenNew (service : Bool) (o : Opening) (t : Tabled) : Type 0 where
  pub number : o.number ≡ (content_in t).next_handle
  pub room : 0 < t.handles.rows.room
  pub suits : suits o.kind false service ≡ true
  pub connection : HasRoomForHandle o.connection t.connections

-- the records behind which it opens can be told, and delete nothing
pub record IsReadyOn (beginning : List Beginning) (found : Found) (o : Opening) (t : Tabled) : Type 0 where
  pub begins : AreReady beginning t
  pub keeps : list_all is_keeping beginning ≡ true
  pub opens : CanOpen found o t

pub record IsReadyToCreate (object : NewObject) (o : Opening) (t : Tabled) : Type 0 where
  pub creates : CanCreate object t
  pub opens : CanOpenNew (is_some object.server) o t

pub record IsReadyToReplace (replacement : Replacement) (o : Opening) (t : Tabled) : Type 0 where
  pub replaces : IsSomeAnd (placed_at replacement.object t.names) (CanReplace replacement t)
  pub opens : CanOpenNew (is_some replacement.server) o t

-- all that it wants is there
abbrev pub IsReady : Opens → Tabled → Type 0
IsReady (OnFound beginning found opening) t = IsReadyOn beginning.items found opening t
IsReady (Creating object opening) t = IsReadyToCreate object opening t
IsReady (Replacing replacement opening) t = IsReadyToReplace replacement opening t
