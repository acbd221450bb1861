-- Runs of slots, outside of which no handle is given a record.
use Rattle.std.specs.Prelude.{◌≡◌, ◌≤◌, ℕ, List, false, is_some, length, take, drop}
use Rattle.std.specs.List.{AllByRecursion}
use Rattle.pps_types.specs.declared.record.Kind.{Kind}
use Rattle.pps_types.specs.History.{Entry}
use Rattle.pps_types.specs.Reading.{shown}
use Rattle.sub_reader.specs.Rows.{number_in, rows_in}
use Rattle.topics.specs.declared.span.Span.{Span}
use Rattle.topics.specs.QueueRows.{QueueRow, QueueSlot, sees}

-- the handles in so many of the first slots
abbrev pub rows_before : ℕ → List QueueSlot → List QueueRow
rows_before place slots = rows_in (take place slots)

-- the handles in all slots but so many of the first
abbrev pub rows_from : ℕ → List QueueSlot → List QueueRow
rows_from place slots = rows_in (drop place slots)

-- a run of slots from one place up to another: the handles outside of it are such
pub record IsSpan (Out : QueueRow → Type 0) (from to : ℕ) (slots : List QueueSlot) : Type 0 where
  pub order : from ≤ to
  pub bound : to ≤ length slots
  pub before : AllByRecursion Out (rows_before from slots)
  pub behind : AllByRecursion Out (rows_from to slots)

-- it is of another number
abbrev pub IsOther : ℕ → QueueRow → Type 0
IsOther number x = number_in x ≡ number → ⊥

-- no record of that kind has a block for it
abbrev pub IsBlind : Kind → QueueRow → Type 0
IsBlind kind x = is_some (shown x.opening.kind x.opening.number x.opening.options.filter kind) ≡ false

-- it is given none of the records, on the object of that number
abbrev pub IsUnseen : ℕ → List Entry → QueueRow → Type 0
IsUnseen object es x = AllByRecursion (λ e. sees object e x ≡ false) es

-- all handles that are given one of the records are in the span
abbrev pub CoversSeers : ℕ → List Entry → Span → List QueueSlot → Type 0
CoversSeers object es span slots = IsSpan (IsUnseen object es) span.from span.to slots
