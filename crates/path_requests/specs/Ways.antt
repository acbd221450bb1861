-- How an open leaves what stands at its path.
use Rattle.std.specs.Prelude.{◌≡◌, ◌+◌, ◌<◌, ◌^◌, ℕ, List, [], ◌∷◌, ◌++◌, Bool, true, false, Option, Some, None, Ok, IsSome, IsSomeAnd, if◌then◌else◌}
use Rattle.std.specs.Option.{option_map_or}
use Rattle.pps_types.specs.declared.event.Mode.{Mode}
use Rattle.pps_types.specs.declared.found.Found.{Found}
use Rattle.pps_types.specs.declared.found.Found.TheVariants.{Object as FoundObject, Directory as FoundDirectory}
use Rattle.pps_types.specs.declared.handle_kind.HandleKind.{HandleKind}
use Rattle.pps_types.specs.declared.record.Kind.{Kind}
use Rattle.pps_types.specs.declared.record.Kind.TheVariants.{Deleted, Opened, Truncated}
use Rattle.pps_types.specs.declared.refusal.Refusal.{Refusal}
use Rattle.pps_types.specs.declared.refusal.Refusal.TheVariants.{TableFull}
use Rattle.pps_types.specs.Names.{Name, parent, last_name, find_at}
use Rattle.pps_types.specs.OpenText.{OpenSpec}
use Rattle.pps_types.specs.Content.{Content, Object, at, object_numbered}
use Rattle.pps_types.specs.Plan.{Move, Creates as CreatesObject, AppendsRecord, Opens as OpensHandle, entry_of, new_object, new_handle, preparing, found_object}
use Rattle.service_laws.specs.SettlingTargets.{last_number_passed}
use Rattle.sub_reader.specs.Opened.{number_of, is_directory, suits}
use Rattle.open_handles.specs.Whole.{Whole, name_at, site_at}
use Rattle.service_state.specs.Lines.{deletes, is_change}
use Rattle.service_state.specs.Tables.{Tabled, content_in}
use Rattle.path_requests.specs.declared.planned_open.Opens.{Opens}
use Rattle.path_requests.specs.declared.ways.Step.{Step}
use Rattle.path_requests.specs.declared.ways.Step.TheVariants.{Stays, Tells, Creates, Replaces}
use Rattle.path_requests.specs.declared.ways.Way.{Way}
use Rattle.path_requests.specs.Asked.{handle_by}
use Rattle.path_requests.specs.Planned.{moves_of}

-- what is done to an object that is alive, a server's or a plain one, by an open whose handle gets that number
abbrev pub step_on : Mode → OpenSpec → ℕ → Bool → ℕ → Step
step_on mode spec object served number =
    if spec.options.server then Replaces object else
    if served then Tells object (Opened number) else
    if mode.t then Tells object Truncated else Stays (FoundObject object)

-- the moves of a step
abbrev pub step_moves : Content → OpenSpec → Step → List Move
step_moves c spec (Stays found) = []
step_moves c spec (Tells object kind) = option_map_or (λ o. AppendsRecord (entry_of o.object kind None) ∷ []) (object_numbered c object) []
step_moves c spec (Creates directory) = CreatesObject (new_object c spec) ∷ []
step_moves c spec (Replaces object) = option_map_or (λ o. AppendsRecord (entry_of o.object Deleted None) ∷ CreatesObject (new_object c spec) ∷ []) (object_numbered c object) []

-- the number and the name of what the handle opens on
abbrev pub step_target : Tabled → OpenSpec → Step → ℕ × Name
step_target t spec (Stays found) = (number_of found, name_at found t.handles)
step_target t spec (Tells object kind) = (object, name_at (FoundObject object) t.handles)
step_target t spec _ = ((content_in t).next_object, last_name spec.names)

-- how many records and objects it makes
abbrev pub step_records : Step → ℕ
step_records (Stays found) = 0
step_records (Replaces object) = 2
step_records _ = 1

abbrev pub step_objects : Step → ℕ
step_objects (Creates directory) = 1
step_objects (Replaces object) = 1
step_objects _ = 0

-- TableFull where the last number would be passed by those that it makes
abbrev pub step_refusal : Tabled → Step → Option Refusal
step_refusal t step = if last_number_passed (content_in t) (step_records step) (step_objects step) 0 then Some TableFull else None

-- there are numbers for the records that it makes
abbrev pub HasRecordsLeft : Tabled → Step → Type 0
HasRecordsLeft t step = (content_in t).records + step_records step < 2 ^ 64

-- there are numbers for the objects that it makes
abbrev pub HasObjectsLeft : Tabled → Step → Type 0
HasObjectsLeft t step = (content_in t).next_object + step_objects step < 2 ^ 64

-- ---- that it can be gone

-- a handle of that kind can be opened there
abbrev pub SuitsOn : HandleKind → Found → Whole → Type 0
SuitsOn kind f w = IsSomeAnd (site_at f w) (λ s. suits kind (is_directory f) s.service ≡ true)

-- the record leaves the object alive, and changes no attributes by lines
pub record CanTell (t : Tabled) (kind : HandleKind) (object : ℕ) (told : Kind) : Type 0 where
  pub suits : SuitsOn kind (FoundObject object) t.handles
  pub alive : IsSome (object_numbered (content_in t) object)
  pub keeps : deletes told ≡ false
  pub plain : is_change told ≡ false

-- the directory is the one above the path
pub record CanCreateIn (t : Tabled) (spec : OpenSpec) (kind : HandleKind) (directory : ℕ) : Type 0 where
  pub above : find_at (at (content_in t)) (parent spec.names) ≡ Ok (FoundDirectory directory)
  pub suits : suits kind false spec.options.server ≡ true
  pub within : (new_object (content_in t) spec).directory ≡ directory

-- the other is in the directory above the path, and has the path's last name
pub record IsFollowedBy (new gone : Object) : Type 0 where
  pub directory : new.directory ≡ gone.directory
  pub name : new.name ≡ gone.name

pub record CanReplaceIt (t : Tabled) (spec : OpenSpec) (kind : HandleKind) (object : ℕ) : Type 0 where
  pub alive : IsSomeAnd (object_numbered (content_in t) object) (λ o. IsFollowedBy (new_object (content_in t) spec) o.object)
  pub suits : suits kind false true ≡ true
  pub server : spec.options.server ≡ true

abbrev pub CanStep : Tabled → OpenSpec → HandleKind → Step → Type 0
CanStep t spec kind (Stays found) = SuitsOn kind found t.handles
CanStep t spec kind (Tells object told) = CanTell t kind object told
CanStep t spec kind (Creates directory) = CanCreateIn t spec kind directory
CanStep t spec kind (Replaces object) = CanReplaceIt t spec kind object

-- its moves and its handle are those of the open, and it can be gone
pub record IsWay (t : Tabled) (mode : Mode) (spec : OpenSpec) (w : Way) : Type 0 where
  pub moves : preparing (content_in t) mode spec (found_object (content_in t) spec) ≡ step_moves (content_in t) spec w.step
  pub handle : (conn : ℕ) → new_handle (content_in t) conn mode spec (found_object (content_in t) spec) ≡ handle_by (content_in t) conn mode spec w.kind (step_target t spec w.step)
  pub able : CanStep t spec w.kind w.step

-- an open goes this way: it has the moves of the step, and then its handle opens
abbrev pub GoesWay : ℕ → Mode → OpenSpec → Way → Tabled → Tabled → Opens → Type 0
GoesWay conn mode spec w old new o = moves_of o new ≡ step_moves (content_in old) spec w.step
    ++ OpensHandle (handle_by (content_in old) conn mode spec w.kind (step_target old spec w.step)) ∷ []
