-- How far handles have read of the records that their target holds.
use Rattle.std.specs.Prelude.{◌≡◌, ℕ, ◌+◌, ◌-◌, ◌<◌, ◌≤◌, Bool, true, false, ◌||◌, nat_lt, if◌then◌else◌, List, [], ◌∷◌, length, filter, drop, Option, Some, None}
use Rattle.pps_types.specs.declared.handle_kind.HandleKind.{HandleKind}
use Rattle.pps_types.specs.History.{Entry}
use Rattle.pps_types.specs.Reading.{OpenHandle, reseen, style, is_full_style, is_delta_style, is_directory_kind, visible}
use Rattle.pps_types.specs.Rests.{Progress, News as SeenNews, Unread, Over as SeenOver, Owed}
use Rattle.pps_types.specs.Owed.{same_flag}
use Rattle.sub_reader.specs.Opened.{opened, armed_pulse}
use Rattle.sub_reader.specs.declared.place.Place.{Place}
use Rattle.sub_reader.specs.declared.place.Place.TheVariants.{News, Fresh, Over, Idle, At}
use Rattle.sub_reader.specs.Readers.{Reader}

-- what a handle at a place has seen, where the records that are held begin at a position
abbrev pub seen_at : ℕ → List Entry → Place → Progress
seen_at start entries (News b) = SeenNews b
seen_at start entries Fresh = Unread
seen_at start entries Over = SeenOver
seen_at start entries Idle = Owed []
seen_at start entries (At first owed) = Owed (drop (first - start) entries)

-- with what waits on it
abbrev pub waiting : Reader → OpenHandle Progress → OpenHandle Progress
waiting r handle = record handle { parked = r.parked; armed = armed_pulse r.armed }

-- the handle, on the target of that number and name
abbrev pub handle_of : ℕ → List ℕ → ℕ → List Entry → Reader → OpenHandle Progress
handle_of target name start entries r = waiting r (reseen (λ handle. seen_at start entries r.progress) (opened target name r.opening))

abbrev pub placed : Place → Reader → Reader
placed place r = record r { progress = place }

-- ---- where a handle goes

-- the place after a record, which was pushed at a position
abbrev pub place_after : ℕ → Bool → ℕ → Place → Place
place_after limit sees position (News b) = News (b || sees)
place_after limit sees position Fresh = Fresh
place_after limit sees position Over = Over
place_after limit sees position Idle = if sees then (if nat_lt 0 limit then At position 1 else Over) else Idle
place_after limit sees position (At first owed) = if sees then (if nat_lt owed limit then At first (owed + 1) else Over) else At first owed

-- whatever record is pushed, a handle stays there
abbrev pub IsFixed : Place → Type 0
IsFixed place = (limit : ℕ) (sees : Bool) (position : ℕ) → place_after limit sees position place ≡ place

-- what it is given has nothing to do with names
abbrev pub reader_after : ℕ → Entry → ℕ → Reader → Reader
reader_after target e position r = placed (place_after r.opening.limit (visible (opened target [] r.opening) e) position r.progress) r

-- where it is once it was told to go somewhere, or to stay
abbrev pub moved_to : Option Place → Reader → Reader
moved_to None r = r
moved_to (Some place) r = placed place r

-- at its opening
abbrev pub first_place : HandleKind → Bool → Place
first_place kind reads = if is_full_style (style kind) then News reads else Fresh

-- once it has read everything
abbrev pub caught_place : HandleKind → Place
caught_place kind = if is_full_style (style kind) then News false else Idle

-- ---- which places are right

abbrev pub Begins : (Entry → Bool) → List Entry → Type 0
Begins test [] = ⊥
Begins test (e ∷ es) = test e ≡ true

-- The first record that is owed stands among those that are held, so many are owed from there, and they are within the limit.
pub record IsAt {S : Type 0} (handle : OpenHandle S) (start : ℕ) (entries : List Entry) (first owed : ℕ) : Type 0 where
  pub delta : is_delta_style (style handle.kind) ≡ true
  pub from_start : start ≤ first
  pub before_end : first < start + length entries
  pub begins : Begins (visible handle) (drop (first - start) entries)
  pub count : length (filter (visible handle) (drop (first - start) entries)) ≡ owed
  pub few : owed ≤ handle.limit

abbrev pub IsPlace : {S : Type 0} → OpenHandle S → ℕ → List Entry → Place → Type 0
IsPlace handle start entries (News b) = is_full_style (style handle.kind) ≡ true
IsPlace handle start entries Fresh = is_delta_style (style handle.kind) ≡ true
IsPlace handle start entries Over = is_delta_style (style handle.kind) ≡ true
IsPlace handle start entries Idle = is_delta_style (style handle.kind) ≡ true
IsPlace handle start entries (At first owed) = IsAt handle start entries first owed

-- a handle on the directory or object of that number
pub record IsReader (directory : Bool) (target : ℕ) (name : List ℕ) (start : ℕ) (entries : List Entry) (r : Reader) : Type 0 where
  pub flag : same_flag (is_directory_kind r.opening.kind) directory ≡ true
  pub place : IsPlace (opened target name r.opening) start entries r.progress
