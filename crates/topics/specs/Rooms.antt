-- What making room changes of handles: only the room.
use Rattle.std.specs.Prelude.{◌≡◌, ◌≤◌, List}
use Rattle.std.specs.List.{AllZip}
use Rattle.topics.specs.QueueRows.{QueueRow}

-- all but the room stays, and the room does not get less
pub record IsKept (old new : QueueRow) : Type 0 where
  pub opening : new.opening ≡ old.opening
  pub parked : new.parked ≡ old.parked
  pub armed : new.armed ≡ old.armed
  pub limit : new.progress.limit ≡ old.progress.limit
  pub owed : new.progress.owed ≡ old.progress.owed
  pub records : old.progress.room ≤ new.progress.room
  pub messages : old.progress.counters ≤ new.progress.counters

abbrev pub AreKept : List QueueRow → List QueueRow → Type 0
AreKept olds news = AllZip IsKept olds news
