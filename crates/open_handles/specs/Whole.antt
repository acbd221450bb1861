-- All open handles of a service, under their numbers, by the object or directory that each is on.
use Rattle.std.specs.Prelude.{◌≡◌, ◌≤◌, ◌<◌, ◌-◌, ◌==◌, ℕ, Bool, true, false, List, [], ◌∷◌, Option, Some, None, is_some, IfSome, IfNone, map, filter, find, length, option_map, option_and_then}
use Rattle.std.specs.Option.{option_map_or}
use Rattle.std.specs.List.{AllByRecursion, filter_map}
use Rattle.pps_types.specs.declared.found.Found.{Found}
use Rattle.pps_types.specs.declared.found.Found.TheVariants.{Object as FoundObject, Directory as FoundDirectory}
use Rattle.pps_types.specs.declared.handle_kind.HandleKind.{HandleKind}
use Rattle.pps_types.specs.History.{Entry}
use Rattle.pps_types.specs.Reading.{OpenHandle, reseen, visible}
use Rattle.pps_types.specs.Plan.{caught_up, left, on_numbered}
use Rattle.pps_types.specs.Rests.{Progress}
use Rattle.pps_types.specs.Owed.{longest_rest}
use Rattle.pps_types.specs.WellFormed.{RiseBetween}
use Rattle.service_laws.specs.Concerned.{is_on_object, is_on_directory}
use Rattle.number_table.specs.Numbered.{Entry as Numbering, Numbered, has_number, value_under, value_at, with_value}
use Rattle.server_queue.specs.Shared.{Shared}
use Rattle.sub_reader.specs.declared.opening.Opening.{Opening}
use Rattle.sub_reader.specs.HandleAt.{with_opened}
use Rattle.sub_reader.specs.Opened.{handle_at, is_directory, number_of, armed_pulse, suits}
use Rattle.sub_reader.specs.HandlesOf.{AreOn}
use Rattle.topics.specs.declared.topic.Topic.{Topic}
use Rattle.topics.specs.HandlesOf.{target_of, handles_of, name_of, kept_of, is_service, places_of as places_for, IsReady}
use Rattle.open_handles.specs.declared.change.Change.{Change}
use Rattle.open_handles.specs.declared.change.Change.TheVariants.{CatchUp, Pass, Park, Arm}
use Rattle.open_handles.specs.declared.places.Places.{Places}

-- rows: what each handle is on, under its number. objects, directories: the handles on each, under its number.
pub record Whole : Type 0 where
  pub rows : Numbered Found
  pub objects : Numbered Topic
  pub directories : Numbered Topic

-- ---- the handles of rows, where each object and each directory has its own

-- the handle under a number
abbrev pub row_handle : (Found → List (OpenHandle Progress)) → Numbering Found → Option (OpenHandle Progress)
row_handle on e = handle_at e.number (on e.value)

-- The numbers rise; what is on each object and directory is its own, with rising numbers; each row has its handle, and each handle its row.
pub record AreRowed (on : Found → List (OpenHandle Progress)) (rows : List (Numbering Found)) (next : ℕ) : Type 0 where
  pub rise : RiseBetween 0 (map (λ e. e.number) rows) next
  pub on_topic : (f : Found) → AreOn (is_directory f) (number_of f) (on f)
  pub each : AllByRecursion (λ e. is_some (row_handle on e) ≡ true) rows
  pub own : (f : Found) → AllByRecursion (λ handle. value_under handle.number rows ≡ Some f) (on f)

-- ---- by where they are

-- the handles on an object or a directory, with its room
abbrev pub place_at : Found → Places → Option Topic
place_at (FoundObject n) p = value_at n p.objects
place_at (FoundDirectory n) p = value_at n p.directories

-- others in their place
abbrev pub with_place : Places → Found → Topic → Places
with_place p (FoundObject n) s = record p { objects = with_value p.objects n s }
with_place p (FoundDirectory n) s = record p { directories = with_value p.directories n s }

abbrev pub places_of : Whole → Places
places_of w = record { objects = w.objects; directories = w.directories }

-- none but the handles of such a place
abbrev pub handles_in_place : Option Topic → List (OpenHandle Progress)
handles_in_place s = option_map_or handles_of s []

abbrev pub handles_on : Places → Found → List (OpenHandle Progress)
handles_on p f = handles_in_place (place_at f p)

abbrev pub topic_at : Found → Whole → Option Topic
topic_at f w = place_at f (places_of w)

abbrev pub handles_at : Found → Whole → List (OpenHandle Progress)
handles_at f w = handles_on (places_of w) f

-- an object or a directory goes where no handle is on it
abbrev pub GoesIfUnused : Found → Whole → Whole → Type 0
GoesIfUnused f old new = handles_at f old ≡ [] → topic_at f new ≡ None

-- and else nothing changes
abbrev pub StaysIfUsed : Found → Whole → Whole → Type 0
StaysIfUsed f old new = (handles_at f old ≡ [] → ⊥) → new ≡ old

-- what is on any other object or directory stays, with its room
abbrev pub KeepsOthers : Found → Whole → Whole → Type 0
KeepsOthers found old new = (f : Found) → (f ≡ found → ⊥) → topic_at f new ≡ topic_at f old

-- others have the same handles on what these are on
abbrev pub HasSame : Places → Topic → Type 0
HasSame p s = handles_on p (target_of s) ≡ handles_of s

-- the handle of a number in a place, where there is one
abbrev pub handle_in_topic : ℕ → Option Topic → Option (OpenHandle Progress)
handle_in_topic number place = option_and_then (λ (s : Topic). handle_at number (handles_of s)) place

-- no handle is on the object or directory of that number in a table
abbrev pub HasNoneAt : ℕ → Numbered Topic → Type 0
HasNoneAt number table = handles_in_place (value_at number table) ≡ []

-- just those records are held for readers that have to be kept: the longest rest that a handle is owed
abbrev pub HoldsWhatIsOwed : Topic → Type 0
HoldsWhatIsOwed s = kept_of s ≡ longest_rest (is_directory (target_of s)) (number_of (target_of s)) (handles_of s)

-- its handles are on it, and it holds what they are owed
pub record IsRight (s : Topic) : Type 0 where
  pub on_topic : AreOn (is_directory (target_of s)) (number_of (target_of s)) (handles_of s)
  pub exact : HoldsWhatIsOwed s

-- the numbers of a table rise, below the next one
abbrev pub HasRisingNumbers : {T : Type 0} → Numbered T → Type 0
HasRisingNumbers table = RiseBetween 0 (map (λ e. e.number) table.entries) table.next

-- each is where it says and holds what is owed, and no number of an object or a directory comes twice
pub record ArePlaced (p : Places) : Type 0 where
  pub objects_rise : RiseBetween 0 (map (λ e. e.number) p.objects.entries) p.objects.next
  pub directories_rise : RiseBetween 0 (map (λ e. e.number) p.directories.entries) p.directories.next
  pub on : (f : Found) (s : Topic) → place_at f p ≡ Some s → target_of s ≡ f
  pub exact : (f : Found) (s : Topic) → place_at f p ≡ Some s → HoldsWhatIsOwed s

-- ---- the whole

abbrev pub handle_of_row : Whole → Numbering Found → Option (OpenHandle Progress)
handle_of_row w = row_handle (λ f. handles_at f w)

-- all handles, in rising number
abbrev pub handles_in : Whole → List (OpenHandle Progress)
handles_in w = filter_map (handle_of_row w) w.rows.entries

-- this is the place of the handle of that number, if that is open
abbrev pub IsPlaceOf : ℕ → Whole → Topic → Type 0
IsPlaceOf number w s = handle_at number (handles_of s) ≡ handle_at number (handles_in w)

-- the same handles are open in both, and the same number is next
abbrev pub HasSameHandles : Whole → Whole → Type 0
HasSameHandles one other = (handles_in one ≡ handles_in other) × (one.rows.next ≡ other.rows.next)

pub record IsWhole (w : Whole) : Type 0 where
  pub rowed : AreRowed (λ f. handles_at f w) w.rows.entries w.rows.next
  pub placed : ArePlaced (places_of w)

-- ---- what callers are told of places

-- what an object or a directory is called, and whether it is a server object
pub record Site : Type 0 where
  pub name : List ℕ
  pub service : Bool

abbrev pub site_of : Topic → Site
site_of s = record { name = name_of s; service = is_service s }

-- that of a directory, which has no name here, and no server
abbrev pub directory_site : Site
directory_site = record { name = []; service = false }

-- that of a plain object of this name
abbrev pub plain_site : List ℕ → Site
plain_site name = record { name = name; service = false }

-- an object that is to be added
pub record Fresh : Type 0 where
  pub object : ℕ
  pub site : Site

-- it is that object, without handles and records, and has room for one
pub record IsFresh (object : ℕ) (s : Topic) : Type 0 where
  pub on : target_of s ≡ FoundObject object
  pub bare : handles_of s ≡ []
  pub empty : kept_of s ≡ []
  pub room : 0 < places_for s

-- a place where handles can be opened, if there is one
abbrev pub site_at : Found → Whole → Option Site
site_at f w = option_map site_of (topic_at f w)

-- handles can be opened on it
abbrev pub HasSite : Found → Whole → Type 0
HasSite f w = is_some (site_at f w) ≡ true

-- the fact holds if the object is a server's
abbrev pub IfServed : ℕ → Whole → Type 0 → Type 0
IfServed object w fact = IfSome (site_at (FoundObject object) w) (λ s. s.service ≡ true → fact)

-- it is an object
abbrev pub IsObject : Found → Type 0
IsObject f = is_directory f ≡ false

abbrev pub name_at : Found → Whole → List ℕ
name_at f w = option_map_or (λ s. s.name) (site_at f w) []

-- all handles after one was opened on an object or a directory
abbrev pub with_opened_on : Found → Opening → Whole → List (OpenHandle Progress)
with_opened_on f opening w = with_opened (number_of f) (name_at f w) opening (handles_in w)

-- for how many more handles there is memory in a place
abbrev pub room_at : Found → Whole → ℕ
room_at f w = option_map_or places_for (topic_at f w) 0

-- a handle of that kind may be opened there
abbrev pub SuitsAt : HandleKind → Found → Whole → Type 0
SuitsAt kind f w = IfSome (site_at f w) (λ s. suits kind (is_directory f) s.service ≡ true)

-- numbers go on as before, and room that was stays
pub record KeepsTable {T : Type 0} (old new : Numbered T) : Type 0 where
  pub next : new.next ≡ old.next
  pub room : old.room ≤ new.room

-- objects and directories stay, and room for more
pub record KeepsSites (old new : Whole) : Type 0 where
  pub sites : (f : Found) → site_at f new ≡ site_at f old
  pub objects : KeepsTable old.objects new.objects
  pub directories : KeepsTable old.directories new.directories

-- room for handles stays
abbrev pub KeepsPlaces : Whole → Whole → Type 0
KeepsPlaces old new = (f : Found) → room_at f old ≤ room_at f new

-- it is on that object or directory
abbrev pub is_on : Found → OpenHandle Progress → Bool
is_on (FoundObject n) = is_on_object n
is_on (FoundDirectory n) = is_on_directory n

-- in each place are just the handles that are on its object or directory
abbrev pub HasEachInPlace : Whole → Type 0
HasEachInPlace w = (f : Found) → handles_at f w ≡ filter (is_on f) (handles_in w)

-- the handles on an object or a directory, under its number
abbrev pub HandlesOf : Type 0
HandlesOf = Numbering Topic

-- the records that are held for them
abbrev pub kept_for : HandlesOf → List Entry
kept_for x = kept_of x.value

-- the same, if some were found
abbrev pub kept_if : Option HandlesOf → List Entry
kept_if found = option_map_or kept_of (option_map (λ (x : HandlesOf). x.value) found) []

-- those that are held for the handles under a number
abbrev pub kept_under : ℕ → List HandlesOf → List Entry
kept_under number xs = kept_if (find (has_number number) xs)

-- the records that are held in a place
abbrev pub kept_at : Found → Whole → List Entry
kept_at f w = option_map_or kept_of (topic_at f w) []

-- in each place are just the records that have to be kept for the readers of its object or directory
abbrev pub HoldsJustWhatIsOwed : Whole → Type 0
HoldsJustWhatIsOwed w = (f : Found) → kept_at f w ≡ longest_rest (is_directory f) (number_of f) (handles_in w)

-- ---- records

-- a record of that object, or of an object directly in that directory
abbrev pub is_told : Found → Entry → Bool
is_told (FoundObject n) e = e.record_of.object == n
is_told (FoundDirectory n) e = e.directory == n

-- wherever there are handles that are told some of the records, there is room for these
abbrev pub HasRoomAt : List Entry → Found → Topic → Type 0
HasRoomAt entries f s = 0 < length (handles_of s) → 0 < length (filter (is_told f) entries) → IsReady (filter (is_told f) entries) s

abbrev pub HasRoom : List Entry → Whole → Type 0
HasRoom entries w = (f : Found) (s : Topic) → topic_at f w ≡ Some s → HasRoomAt entries f s

abbrev pub KeepsRecords : Whole → Whole → Type 0
KeepsRecords old new = (entries : List Entry) → HasRoom entries old → HasRoom entries new

-- where a place with handles had room for a record and others, it has room for the others
abbrev pub UsesRoomAt : Entry → Topic → Topic → Type 0
UsesRoomAt e old new = (entries : List Entry) → 0 < length (handles_of old) → IsReady (e ∷ entries) old → IsReady entries new

-- where there was room for a record and others, there is room for the others
abbrev pub UsesRoom : Entry → Whole → Whole → Type 0
UsesRoom e old new = (entries : List Entry) → HasRoom (e ∷ entries) old → HasRoom entries new

-- ---- one handle changes

abbrev pub changed : Change → OpenHandle Progress → OpenHandle Progress
changed CatchUp handle = reseen caught_up handle
changed (Pass count) handle = reseen (λ handle. left handle count handle.seen) handle
changed (Park size) handle = record handle { parked = size }
changed (Arm pulse) handle = record handle { armed = armed_pulse pulse }

-- handles after the one of a number changed so
abbrev pub with_changed : ℕ → Change → List (OpenHandle Progress) → List (OpenHandle Progress)
with_changed number change handles = on_numbered number (changed change) handles

-- ---- a record that is told

-- The shares of a record are enough for one place: where its object is a server's, one for each handle that is given it.
abbrev pub IsSharedAt : ℕ → Entry → Found → Whole → Type 0
IsSharedAt count e f w =
    IfSome (site_at f w) (λ s. s.service ≡ true → length (filter (λ (handle : OpenHandle Progress). visible handle e) (handles_at f w)) ≤ count)

-- The shares of a record are enough: one where handles are on its directory, and besides it as many as the place of its object needs.
pub record IsShared (count : ℕ) (e : Entry) (w : Whole) : Type 0 where
  pub directory : 0 < length (handles_at (FoundDirectory e.directory) w) → 0 < count
  pub object : IsSharedAt (count - 1) e (FoundObject e.record_of.object) w

-- how many shares a directory has
abbrev pub share_count : Option Entry → ℕ
share_count None = 0
share_count (Some e) = 1

-- The share of a directory is of the same record as those of an object. Where it has none, the object has none either.
pub record AreOfOneRecord (shares : Shared) (for_directory : Option Entry) : Type 0 where
  pub same : IfSome for_directory (λ e. e ≡ shares.entry)
  pub none : IfNone for_directory (shares.count ≡ 0)

-- there is room for records in one place
abbrev pub HasRoomIn : List Entry → Found → Whole → Type 0
HasRoomIn entries f w = IfSome (topic_at f w) (HasRoomAt entries f)

-- where there was room for a record and others in one place, there is room for the others
abbrev pub UsesRoomIn : Entry → Found → Whole → Whole → Type 0
UsesRoomIn e f old new = (entries : List Entry) → HasRoomIn (e ∷ entries) f old → HasRoomIn entries f new

-- ---- room for records

-- there is room for all of these, where there are handles
abbrev pub IsReadyIfUsed : List Entry → Topic → Type 0
IsReadyIfUsed entries s = 0 < length (handles_of s) → IsReady entries s

-- the same of one place
abbrev pub IsReadyAt : List Entry → Found → Whole → Type 0
IsReadyAt entries f w = IfSome (topic_at f w) (IsReadyIfUsed entries)

-- and wherever a record is told
pub record IsReadyFor (entries : List Entry) (w : Whole) (e : Entry) : Type 0 where
  pub object : IsReadyAt entries (FoundObject e.record_of.object) w
  pub directory : IsReadyAt entries (FoundDirectory e.directory) w

-- two records are of one object, in one directory
pub record AreOfSame (one other : Entry) : Type 0 where
  pub object : one.record_of.object ≡ other.record_of.object
  pub directory : one.directory ≡ other.directory

-- nothing but room for records is other, and of that none is lost
pub record IsReserved (old new : Whole) : Type 0 where
  pub handles : handles_in new ≡ handles_in old
  pub sites : KeepsSites old new
  pub rows : new.rows ≡ old.rows
  pub places : KeepsPlaces old new
  pub records : KeepsRecords old new
  pub ready : (entries : List Entry) (f : Found) → IsReadyAt entries f old → IsReadyAt entries f new
