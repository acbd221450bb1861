-- Handles and the records that a chain holds for them.
use Rattle.std.specs.Prelude.{◌≡◌, ℕ, ◌-◌, List, [], drop}
use Rattle.change_chain.specs.Span.{Span}
use Rattle.pps_types.specs.History.{Entry}
use Rattle.pps_types.specs.Reading.{visible}
use Rattle.pps_types.specs.Rests.{from_first, past}
use Rattle.pps_types.specs.Plan.{left}
use Rattle.sub_reader.specs.declared.opening.Opening.{Opening}
use Rattle.sub_reader.specs.declared.place.Place.{Place}
use Rattle.sub_reader.specs.Opened.{opened}
use Rattle.sub_reader.specs.Places.{seen_at, IsPlace}

-- the records from a position on
abbrev pub records_from : ℕ → Span Entry → List Entry
records_from position records = drop (position - records.start) records.items

-- a right place among them, of a handle on the target of that number
abbrev pub IsPlaceIn : ℕ → Opening → Span Entry → Place → Type 0
IsPlaceIn target o records place = IsPlace (opened target [] o) records.start records.items place

-- of these records, from the first on that the handle is given after so many that it is given
abbrev pub rest_past : ℕ → Opening → ℕ → List Entry → List Entry
rest_past target o count entries = from_first (visible (opened target [] o)) (past (visible (opened target [] o)) count entries)

-- given so many of the records more, a handle goes from one place to the other
abbrev pub PassesTo : ℕ → Opening → Span Entry → ℕ → Place → Place → Type 0
PassesTo target o records count from to =
    seen_at records.start records.items to ≡ left (opened target [] o) count (seen_at records.start records.items from)
