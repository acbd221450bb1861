-- What stands of a server object's handles.
use Rattle.std.specs.Prelude.{◌≡◌, ℕ, Bool, ◌≤◌, List, [], ◌∷◌, filter, length}
use Rattle.std.specs.List.{sum_by, AllByRecursion}
use Rattle.pps_types.specs.History.{Entry}
use Rattle.pps_types.specs.Reading.{OpenHandle, Queue, style, visible}
use Rattle.pps_types.specs.Rests.{Progress}
use Rattle.pps_types.specs.Owed.{longest_rest}
use Rattle.server_queue.specs.Senders.{client_messages}
use Rattle.sub_reader.specs.declared.opening.Opening.{Opening}
use Rattle.sub_reader.specs.HandleAt.{with_opened}
use Rattle.topics.specs.QueueRows.{QueueRow}

-- for how many more records a handle's queue has memory, and for how many more messages of clients it can count them
pub record Spare : Type 0 where
  pub records : ℕ
  pub messages : ℕ

-- object, name: the server object's. handles: its server's and clients', in rising number, with what each is owed.
-- spares: the room in the queue of each. places: for how many more handles there is memory.
pub record Standing : Type 0 where
  pub object : ℕ
  pub name : List ℕ
  pub handles : List (OpenHandle Progress)
  pub spares : List Spare
  pub places : ℕ

abbrev pub spare_of : QueueRow → Spare
spare_of x = record { records = x.progress.room; messages = x.progress.counters }

-- how many of these records are messages of clients
abbrev pub messages_in : List Entry → ℕ
messages_in entries = sum_by (λ e. client_messages e.record_of.kind) entries

-- a queue has room for those of the records that are for its handle
pub record HasRoom {S : Type 0} (entries : List Entry) (handle : OpenHandle S) (spare : Spare) : Type 0 where
  pub records : length (filter (visible handle) entries) ≤ spare.records
  pub messages : messages_in (filter (visible handle) entries) ≤ spare.messages

abbrev pub HaveRoom : List Entry → List (OpenHandle Progress) → List Spare → Type 0
HaveRoom entries [] spares = Unit {0}
HaveRoom entries (handle ∷ handles) [] = ⊥
HaveRoom entries (handle ∷ handles) (s ∷ ss) = HasRoom entries handle s × HaveRoom entries handles ss

-- each queue has room for those of the records that are for its handle
abbrev pub IsReady : List Entry → Standing → Type 0
IsReady entries s = HaveRoom entries s.handles s.spares

-- room for records stays
abbrev pub KeepsRoom : Standing → Standing → Type 0
KeepsRoom old new = (entries : List Entry) → IsReady entries old → IsReady entries new

-- where there was room for a record and others, there is room for the others
abbrev pub UsesRoomFor : Entry → Standing → Standing → Type 0
UsesRoomFor e old new = (entries : List Entry) → IsReady (e ∷ entries) old → IsReady entries new

-- its handles and one more that was opened on it
abbrev pub handles_with : Opening → Standing → List (OpenHandle Progress)
handles_with opening s = with_opened s.object s.name opening s.handles

-- of the same number and name
abbrev pub IsSameObject : Standing → Standing → Type 0
IsSameObject one other = (one.object ≡ other.object) × (one.name ≡ other.name)

-- the same object with the same handles
abbrev pub AreSame : Standing → Standing → Type 0
AreSame one other = (one.object ≡ other.object) × (one.name ≡ other.name) × (one.handles ≡ other.handles)

-- each of these handles is a server's or a client's
abbrev pub AreQueued : List (OpenHandle Progress) → Type 0
AreQueued handles = AllByRecursion (λ (handle : OpenHandle Progress). style handle.kind ≡ Queue) handles

-- whatever they are on, none of them is owed records of a list that handles share
abbrev pub ShareNoList : List (OpenHandle Progress) → Type 0
ShareNoList handles = (directory : Bool) (target : ℕ) → longest_rest directory target handles ≡ []
