-- What offering a record makes of the handles.
use Rattle.std.specs.Prelude.{◌≡◌, ℕ, List, Option, map}
use Rattle.pps_types.specs.History.{Entry}
use Rattle.sub_reader.specs.declared.place.Place.{Place}
use Rattle.sub_reader.specs.Readers.{Reader}
use Rattle.sub_reader.specs.Places.{reader_after, moved_to}
use Rattle.sub_reader.specs.Rows.{Rows, IsSlotChangedAt}

-- where a record, pushed at a position, leads a handle, if anywhere
abbrev pub LeadsTo : ℕ → Entry → ℕ → Reader → Option Place → Type 0
LeadsTo target e position r place = moved_to place r ≡ reader_after target e position r

-- the handles after it
abbrev pub readers_after : ℕ → Entry → ℕ → List Reader → List Reader
readers_after target e position readers = map (reader_after target e position) readers

-- just the slot at a place is offered it
abbrev pub IsOfferedAt : ℕ → ℕ → Entry → ℕ → Rows Place → Rows Place → Type 0
IsOfferedAt place target e position old new = IsSlotChangedAt place (reader_after target e position) old new
