-- The memory for lines that change an object.
use Rattle.std.specs.Prelude.{◌≡◌, ℕ, List, [], ◌∷◌, Bool, true, false, Option, Some, None}
use Rattle.pps_types.specs.declared.line.Line.{Line}
use Rattle.pps_types.specs.declared.record.Kind.{Kind}
use Rattle.pps_types.specs.declared.record.Kind.TheVariants.{Change, Deleted}
use Rattle.pps_types.specs.History.{Entry}
use Rattle.pps_types.specs.Plan.{AppendsRecord}
use Rattle.name_table.specs.Standing.{Named, AreReadyIn}
use Rattle.service_state.specs.Tables.{Tabled}
use Rattle.service_state.specs.Tied.{Moves}

abbrev pub HasLinesFor : Kind → ℕ → Named → Type 0
HasLinesFor (Change lines) number n = AreReadyIn number lines n
HasLinesFor _ number n = Unit {0}

-- where a record changes attributes, its lines are ready
abbrev pub HasLines : Entry → Named → Type 0
HasLines e n = HasLinesFor e.record_of.kind e.record_of.object n

-- ---- what becomes of its object

abbrev pub deletes : Kind → Bool
deletes Deleted = true
deletes _ = false

-- it changes attributes by lines
abbrev pub is_change : Kind → Bool
is_change (Change lines) = true
is_change _ = false

-- what is there now is what a record makes of it that changes the object by these lines
abbrev pub ChangesBy : ℕ → List Line → Tabled → Tabled → Type 0
ChangesBy object lines old new =
    (entry : Entry) → entry.record_of.object ≡ object → entry.record_of.kind ≡ Change lines
    → Moves (AppendsRecord entry ∷ []) old new
