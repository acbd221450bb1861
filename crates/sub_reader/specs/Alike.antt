-- What stands of handles, beside where their records begin and the room that was made.
use Rattle.std.specs.Prelude.{◌≡◌, ℕ, ◌-◌, List, map}
use Rattle.server_queue.specs.Queued.{Queued}
use Rattle.sub_reader.specs.declared.place.Place.{Place}
use Rattle.sub_reader.specs.declared.place.Place.TheVariants.{At}
use Rattle.sub_reader.specs.declared.row.HandleRow.{HandleRow}
use Rattle.sub_reader.specs.Readers.{Reader}
use Rattle.sub_reader.specs.Rows.{Rows, rows_of, with_progress}

-- a place, told from where the records begin that are held
abbrev pub place_from : ℕ → Place → Place
place_from start (At first owed) = At (first - start) owed
place_from start p = p

-- a queue without room; it holds its records itself, wherever others begin
abbrev pub queue_from : ℕ → Queued → Queued
queue_from start q = record q { room = 0; counters = 0 }

-- `told` says what stands of how far a handle has read, where its records begin at a position
module _ {P : Type 0} (told : ℕ → P → P) where
  abbrev pub row_told : ℕ → HandleRow P → HandleRow P
  row_told start r = with_progress (told start r.progress) r

  -- the same of all handles
  abbrev pub rows_told : ℕ → Rows P → List (HandleRow P)
  rows_told start rows = map (row_told start) (rows_of rows)

  -- the same stands of a handle and of its copy
  abbrev pub IsCopyOf : HandleRow P → HandleRow P → Type 0
  IsCopyOf row copy = row_told 0 copy ≡ row_told 0 row

  -- the same stands of handles and of their copies, one by one
  abbrev pub AreCopiesOf : Rows P → Rows P → Type 0
  AreCopiesOf rows copies = rows_told 0 copies ≡ rows_told 0 rows

-- a reader, by its place
abbrev pub reader_from : ℕ → Reader → Reader
reader_from start r = row_told place_from start r
