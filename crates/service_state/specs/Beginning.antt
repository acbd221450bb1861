-- What an event begins with: handles close, and records are told.
use Rattle.std.specs.Prelude.{◌≡◌, ◌+◌, ◌<◌, ◌^◌, List, [], ◌∷◌, Bool, true, Option, Some, None, is_some, length, option_map, not}
use Rattle.std.specs.List.{AllByRecursion, filter_map, list_all}
use Rattle.pps_types.specs.History.{Entry}
use Rattle.pps_types.specs.Reading.{OpenHandle}
use Rattle.pps_types.specs.Rests.{Progress}
use Rattle.pps_types.specs.Content.{Content, own_handle}
use Rattle.pps_types.specs.Plan.{Move, AppendsRecord as HappensTo, apply_all_seen}
use Rattle.name_table.specs.Standing.{Named}
use Rattle.open_handles.specs.Whole.{Whole, HasRoom, IsShared}
use Rattle.service_state.specs.declared.beginning.Beginning.{Beginning}
use Rattle.service_state.specs.declared.beginning.Beginning.TheVariants.{Closes, AppendsRecord}
use Rattle.service_state.specs.Moves.{closing}
use Rattle.service_state.specs.Lines.{HasLines, deletes, is_change}
use Rattle.service_state.specs.Tables.{Tabled, content_in}

abbrev pub moves_of : Beginning → List Move
moves_of (Closes conn handle parked) = closing conn handle parked
moves_of (AppendsRecord told) = HappensTo told.entry ∷ []

-- the record that is told
abbrev pub entry_of : Beginning → Option Entry
entry_of (Closes conn handle parked) = None
entry_of (AppendsRecord told) = Some told.entry

abbrev pub entries_in : List Beginning → List Entry
entries_in xs = filter_map entry_of xs

-- ---- what a beginning wants

-- a handle that closes is the connection's own, and a read waits on it or not, as is said
abbrev pub CanBegin : Content → Beginning → Type 0
CanBegin c (Closes conn number parked) =
    option_map (λ (handle : OpenHandle Progress). is_some handle.parked) (own_handle c conn number) ≡ Some parked
CanBegin c (AppendsRecord told) = Unit {0}

-- each of them, where those before it took effect
abbrev pub CanBeginAll : Content → List Beginning → Type 0
CanBeginAll c [] = Unit {0}
CanBeginAll c (x ∷ xs) = CanBegin c x × CanBeginAll (apply_all_seen (moves_of x) c) xs

-- it changes no attributes by lines
abbrev pub is_plain : Beginning → Bool
is_plain (Closes conn handle parked) = true
is_plain (AppendsRecord told) = not (is_change told.entry.record_of.kind)

-- lines are ready for the first record, and no record behind it has any
abbrev pub HaveLines : List Beginning → Named → Type 0
HaveLines [] n = Unit {0}
HaveLines (Closes conn handle parked ∷ xs) n = HaveLines xs n
HaveLines (AppendsRecord told ∷ xs) n = HasLines told.entry n × (list_all is_plain xs ≡ true)

-- the shares of a record are enough
abbrev pub IsSharedBy : Whole → Beginning → Type 0
IsSharedBy w (Closes conn handle parked) = Unit {0}
IsSharedBy w (AppendsRecord told) = IsShared told.count told.entry w

-- All that they want is there: each can begin; there is room for the records, their lines are ready, and their shares are enough; and
-- no record is past the last number.
pub record AreReady (xs : List Beginning) (t : Tabled) : Type 0 where
  pub able : CanBeginAll (content_in t) xs
  pub room : HasRoom (entries_in xs) t.handles
  pub lines : HaveLines xs t.names
  pub shared : AllByRecursion (IsSharedBy t.handles) xs
  pub numbers : t.records + length (entries_in xs) < 2 ^ 64

-- ---- and leaves

-- it deletes no object
abbrev pub is_keeping : Beginning → Bool
is_keeping (Closes conn handle parked) = true
is_keeping (AppendsRecord told) = not (deletes told.entry.record_of.kind)

-- what was ready to come after it is ready once it took effect
abbrev pub LeavesReady : Beginning → Tabled → Tabled → Type 0
LeavesReady x old new = (xs : List Beginning) → AreReady (x ∷ xs) old → AreReady xs new
