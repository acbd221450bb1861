-- What offering a record makes of the handles.
use Rattle.std.specs.Prelude.{◌≡◌, ℕ, ◌+◌, ◌≤◌, if◌then◌else◌, List, [], ◌∷◌, ◌++◌}
use Rattle.std.specs.List.{AllByRecursion, AllZip}
use Rattle.std.specs.Option.{option_map_or}
use Rattle.pps_types.specs.History.{Entry}
use Rattle.server_queue.specs.Queued.{Queued}
use Rattle.server_queue.specs.Senders.{client_messages, client_messages_in}
use Rattle.sub_reader.specs.Opened.{opened}
use Rattle.sub_reader.specs.Rows.{row_at}
use Rattle.topics.specs.QueueRows.{QueueRow, QueueSlot, sees, seer_count}
use Rattle.server_queue.specs.Shared.{Shared}
use Rattle.topics.specs.Standing.{HasRoom, spare_of}

-- the queue of a handle has room for those of the records that are for it
abbrev pub RoomIn : ℕ → List Entry → QueueRow → Type 0
RoomIn object entries x = HasRoom entries (opened object [] x.opening) (spare_of x)

abbrev pub RoomInEach : ℕ → List Entry → List QueueRow → Type 0
RoomInEach object entries rows = AllByRecursion (RoomIn object entries) rows

-- a queue is owed a record more, after all others, and nothing else changes but that this takes its room
pub record Gets (e : Entry) (old new : Queued) : Type 0 where
  pub limit : new.limit ≡ old.limit
  pub owed : new.owed ≡ old.owed ++ e ∷ []
  pub records : new.room + 1 ≡ old.room
  pub messages : old.counters ≤ new.counters + client_messages_in e

-- a handle before and after a record, which is owed to it from then on where it sees it
pub record IsOffered (object : ℕ) (e : Entry) (old new : QueueRow) : Type 0 where
  pub opening : new.opening ≡ old.opening
  pub parked : new.parked ≡ old.parked
  pub armed : new.armed ≡ old.armed
  pub limit : new.progress.limit ≡ old.progress.limit
  pub owed : new.progress.owed ≡ (if sees object e old then old.progress.owed ++ e ∷ [] else old.progress.owed)
  pub records : old.progress.room ≤ new.progress.room + (if sees object e old then 1 else 0)
  pub messages : old.progress.counters ≤ new.progress.counters + (if sees object e old then client_messages e.record_of.kind else 0)

abbrev pub AreOffered : ℕ → Entry → List QueueRow → List QueueRow → Type 0
AreOffered object e olds news = AllZip (IsOffered object e) olds news

-- how many handles at a place are given a record: one or none
abbrev pub seers_at : ℕ → ℕ → Entry → List QueueSlot → ℕ
seers_at place object e slots = option_map_or (λ x. seer_count object e (x ∷ [])) (row_at place slots) 0

-- a share of the record was taken where the handle at a place is given it
abbrev pub TakesShareAt : ℕ → ℕ → List QueueSlot → Shared → Shared → Type 0
TakesShareAt place object slots old new = new.count + seers_at place object old.entry slots ≡ old.count
