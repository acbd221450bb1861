-- The handles on an object or a directory, whichever they are.
use Rattle.std.specs.Prelude.{◌≡◌, ◌≤◌, ℕ, true, List, [], ◌∷◌, Option, length, filter, Bool, false}
use Rattle.std.specs.List.{AllByRecursion}
use Rattle.std.specs.Borrow.{Bor}
use Rattle.pps_types.specs.declared.found.Found.{Found}
use Rattle.pps_types.specs.declared.found.Found.TheVariants.{Object as FoundObject}
use Rattle.pps_types.specs.declared.handle_kind.HandleKind.{HandleKind}
use Rattle.pps_types.specs.History.{Entry}
use Rattle.pps_types.specs.Reading.{OpenHandle, style, visible}
use Rattle.pps_types.specs.Rests.{Progress}
use Rattle.sub_reader.specs.declared.glance.Glance.{Glance}
use Rattle.sub_reader.specs.declared.opening.Opening.{Opening}
use Rattle.sub_reader.specs.Opened.{is_directory, number_of, is_queue_style, suits, IsOpeningAt}
use Rattle.sub_reader.specs.Glances.{IsGlanceAt}
use Rattle.sub_reader.specs.HandleAt.{with_opened}
use Rattle.topics.specs.Standing.{IsReady as IsServiceReady}
use Rattle.topics.specs.declared.topic.Topic.{Topic}
use Rattle.topics.specs.declared.topic.Topic.TheVariants.{Unused, Readers, Served}
use Rattle.topics.specs.Targets.{found_in, name_in, is_served}

-- the object or directory that they are on
abbrev pub target_of : Topic → Found
target_of (Unused u) = found_in u.target
target_of (Readers t) = t.value.of
target_of (Served s) = FoundObject s.value.object

abbrev pub name_of : Topic → List ℕ
name_of (Unused u) = name_in u.target
name_of (Readers t) = t.value.name
name_of (Served s) = s.value.name

-- the handles, in rising number, with what each has seen
abbrev pub handles_of : Topic → List (OpenHandle Progress)
handles_of (Unused u) = []
handles_of (Readers t) = t.value.handles
handles_of (Served s) = s.value.handles

-- the records that are held for readers; those of a server object stand in queues
abbrev pub kept_of : Topic → List Entry
kept_of (Unused u) = []
kept_of (Readers t) = t.value.kept
kept_of (Served s) = []

-- for how many more handles there is memory
abbrev pub places_of : Topic → ℕ
places_of (Unused u) = 0
places_of (Readers t) = t.value.places
places_of (Served s) = s.value.places

-- there is a place for handles
abbrev pub IsPlaced : Topic → Type 0
IsPlaced (Unused u) = ⊥
IsPlaced (Readers t) = Unit {0}
IsPlaced (Served s) = Unit {0}

-- there is room for these records, all of this target
abbrev pub IsReady : List Entry → Topic → Type 0
IsReady entries (Unused u) = entries ≡ []
IsReady entries (Readers t) = length entries ≤ t.value.room
IsReady entries (Served s) = IsServiceReady entries s.value

-- they are a server object's
abbrev pub is_service : Topic → Bool
is_service (Unused u) = is_served u.target
is_service (Readers t) = false
is_service (Served s) = true

abbrev pub Suits : HandleKind → Topic → Type 0
Suits kind x = suits kind (is_directory (target_of x)) (is_service x) ≡ true

-- the same target, with other handles or other memory
pub record IsSameTarget (old new : Topic) : Type 0 where
  pub target : target_of new ≡ target_of old
  pub name : name_of new ≡ name_of old
  pub service : is_service new ≡ is_service old

-- the same handles on the same target, and the same records held for them
pub record IsCopy (x copy : Topic) : Type 0 where
  pub same : IsSameTarget x copy
  pub handles : handles_of copy ≡ handles_of x
  pub kept : kept_of copy ≡ kept_of x

-- room for records stays
abbrev pub KeepsRoom : Topic → Topic → Type 0
KeepsRoom old new = (entries : List Entry) → IsReady entries old → IsReady entries new

-- so many shares of a record are enough: one for each handle of a server object that is given it
abbrev pub IsEnough : ℕ → Entry → Topic → Type 0
IsEnough count e (Unused u) = Unit {0}
IsEnough count e (Readers t) = Unit {0}
IsEnough count e (Served s) = length (filter (λ (handle : OpenHandle Progress). visible handle e) s.value.handles) ≤ count

-- where there was room for a record and others, there is room for the others
abbrev pub UsesRoomFor : Entry → Topic → Topic → Type 0
UsesRoomFor e old new = (entries : List Entry) → IsReady (e ∷ entries) old → IsReady entries new

-- ---- their handles

-- with one more that was opened on the target
abbrev pub handles_with : Opening → Topic → List (OpenHandle Progress)
handles_with opening x = with_opened (number_of (target_of x)) (name_of x) opening (handles_of x)

-- what an open fixed of the handle of a number, if it is one of them
abbrev pub HasOpening : Topic → ℕ → Option (Bor Opening) → Type 0
HasOpening x number opening = IsOpeningAt number (number_of (target_of x)) (name_of x) (handles_of x) opening

-- what is seen of it at one look
abbrev pub HasGlance : Topic → ℕ → Option Glance → Type 0
HasGlance x number glance = IsGlanceAt number (number_of (target_of x)) (name_of x) (handles_of x) glance

-- each of these is a server's or a client's just if the flag is set
abbrev pub AreQueuedJustIf : Bool → List (OpenHandle Progress) → Type 0
AreQueuedJustIf service handles = AllByRecursion (λ (handle : OpenHandle Progress). is_queue_style (style handle.kind) ≡ service) handles

-- the same target with the same handles
abbrev pub AreSame : Topic → Topic → Type 0
AreSame one other =
    (target_of one ≡ target_of other) × (is_service one ≡ is_service other) × (name_of one ≡ name_of other)
    × (handles_of one ≡ handles_of other)
