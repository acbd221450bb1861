-- What stands of a target, and what is always so of its parts.
use Rattle.std.specs.Prelude.{◌≡◌, ℕ, ◌+◌, ◌-◌, ◌<◌, ◌^◌, Bool, List, length, min}
use Rattle.std.specs.List.{AllByRecursion}
use Rattle.pps_types.specs.declared.found.Found.{Found}
use Rattle.pps_types.specs.History.{Entry}
use Rattle.pps_types.specs.Reading.{OpenHandle}
use Rattle.pps_types.specs.Rests.{Progress}
use Rattle.pps_types.specs.Rising.{IsRising}
use Rattle.sub_reader.specs.declared.opening.Opening.{Opening}
use Rattle.sub_reader.specs.Opened.{number_of}
use Rattle.sub_reader.specs.HandleAt.{with_opened}
use Rattle.sub_reader.specs.Places.{IsReader}
use Rattle.sub_reader.specs.Counts.{IsCounted, IsExact}
use Rattle.sub_reader.specs.Readers.{Reader}
use Rattle.sub_reader.specs.Rows.{number_in}

-- of: the object or directory. name: an object's own. handles: those on it, in rising number, with what each has seen.
-- kept: the records that it holds for them. room: for how many more records there is memory, and a position.
-- places: for how many more handles there is memory.
pub record Standing : Type 0 where
  pub of : Found
  pub name : List ℕ
  pub handles : List (OpenHandle Progress)
  pub kept : List Entry
  pub room : ℕ
  pub places : ℕ

-- its handles and one more that was opened on it
abbrev pub handles_with : Opening → Standing → List (OpenHandle Progress)
handles_with opening s = with_opened (number_of s.of) s.name opening s.handles

-- the same target with the same handles
abbrev pub AreSame : Standing → Standing → Type 0
AreSame one other = (one.of ≡ other.of) × (one.name ≡ other.name) × (one.handles ≡ other.handles)

-- how many more records fit behind the end, with memory for so many of them and of their counts
abbrev pub room_of : ℕ → ℕ → ℕ → ℕ
room_of end records_room counts_room = min (2 ^ 64 - 1 - end) (min records_room counts_room)

-- All but that nobody's records are dropped: each has its count, each handle is right where it stands, and they rise.
pub record IsLoose (directory : Bool) (target : ℕ) (name : List ℕ) (start : ℕ) (entries : List Entry) (counts : List ℕ) (readers : List Reader) : Type 0 where
  pub paired : length counts ≡ length entries
  pub fits : start + length entries < 2 ^ 64
  pub each : AllByRecursion (IsReader directory target name start entries) readers
  pub agree : IsCounted start readers counts
  pub rising : IsRising number_in readers

pub record IsTarget (directory : Bool) (target : ℕ) (name : List ℕ) (start : ℕ) (entries : List Entry) (counts : List ℕ) (readers : List Reader) : Type 0 where
  pub loose : IsLoose directory target name start entries counts readers
  pub exact : IsExact counts
