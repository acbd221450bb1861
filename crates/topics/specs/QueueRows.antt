-- The handles of a server object, each with the queue of what it is owed, as the definitions have them.
use Rattle.std.specs.Prelude.{◌≡◌, ℕ, Bool, List, [], ◌∷◌, true, false, not, ◌&&◌, nat_lt, filter, length}
use Rattle.std.specs.List.{AllByRecursion}
use Rattle.pps_types.specs.declared.handle_kind.HandleKind.TheVariants.{Client as ClientHandle}
use Rattle.pps_types.specs.History.{Entry}
use Rattle.pps_types.specs.Reading.{OpenHandle, Queue, reseen, style, visible}
use Rattle.pps_types.specs.Rests.{Progress, Owed}
use Rattle.pps_types.specs.Checks.{is_client}
use Rattle.server_queue.specs.Messages.{message_count}
use Rattle.server_queue.specs.declared.sender.Sender.TheVariants.{Server}
use Rattle.pps_types.specs.Rising.{IsRising}
use Rattle.server_queue.specs.Queued.{Queued}
use Rattle.sub_reader.specs.declared.opening.Opening.{Opening}
use Rattle.sub_reader.specs.declared.row.HandleRow.{HandleRow}
use Rattle.sub_reader.specs.declared.row.Slot.{Slot}
use Rattle.sub_reader.specs.Opened.{opened, armed_pulse}
use Rattle.sub_reader.specs.Rows.{number_in}

-- a handle of the server or of a client
abbrev pub QueueRow : Type 0
QueueRow = HandleRow Queued

-- a place among these
abbrev pub QueueSlot : Type 0
QueueSlot = Slot Queued

-- with what waits on it
abbrev pub waiting : QueueRow → OpenHandle Progress → OpenHandle Progress
waiting x handle = record handle { parked = x.parked; armed = armed_pulse x.armed }

-- a handle on the object of that number and name, which is owed these
abbrev pub owed_as : ℕ → List ℕ → QueueRow → List Entry → OpenHandle Progress
owed_as object name x owed = waiting x (reseen (λ handle. Owed owed) (opened object name x.opening))

-- it is owed what its queue holds
abbrev pub handle_of : ℕ → List ℕ → QueueRow → OpenHandle Progress
handle_of object name x = owed_as object name x x.progress.owed

-- it is a server's or a client's
abbrev pub IsQueued : QueueRow → Type 0
IsQueued x = style x.opening.kind ≡ Queue

-- it is given a record, on the object of that number
abbrev pub sees : ℕ → Entry → QueueRow → Bool
sees object e x = visible (opened object [] x.opening) e

-- how many of them are given it
abbrev pub seer_count : ℕ → Entry → List QueueRow → ℕ
seer_count object e rows = length (filter (sees object e) rows)

-- those of the records that a handle on the object is given which was opened so
abbrev pub entries_for : ℕ → Opening → List Entry → List Entry
entries_for object o entries = filter (visible (opened object [] o)) entries

-- it is a client's, which is owed as many messages of its server as it takes
abbrev pub is_full_client : QueueRow → Bool
is_full_client x = is_client x.opening.kind && not (nat_lt (message_count Server x.progress.owed) x.progress.limit)

-- each of these is for the handle
abbrev pub IsFor : ℕ → Opening → List Entry → Type 0
IsFor object o owed = AllByRecursion (λ e. visible (opened object [] o) e ≡ true) owed

-- a server's or client's handle on the object, whose queue has its limit and holds what is for it
pub record IsRowOn (object : ℕ) (x : QueueRow) : Type 0 where
  pub kind : style x.opening.kind ≡ Queue
  pub limit : x.progress.limit ≡ x.opening.limit
  pub owed : IsFor object x.opening x.progress.owed

-- it is a client's
abbrev pub IsOfClient : QueueRow → Type 0
IsOfClient x = x.opening.kind ≡ ClientHandle

-- where it is known, all but the first are clients'
abbrev pub IsLed : Bool → List QueueRow → Type 0
IsLed false xs = Unit {0}
IsLed true [] = Unit {0}
IsLed true (x ∷ xs) = AllByRecursion IsOfClient xs

-- the handles of the object, in rising number, and whether all but the first are known to be clients'
pub record IsService (object : ℕ) (led : Bool) (rows : List QueueRow) : Type 0 where
  pub each : AllByRecursion (IsRowOn object) rows
  pub rising : IsRising number_in rows
  pub clients : IsLed led rows
