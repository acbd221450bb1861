-- What is noted of names while lines are gone through, and what a map says of the other names.
use Rattle.std.specs.Prelude.{◌≡◌, ℕ, List, Bool, if◌then◌else◌, Option, Some}
use Rattle.object_state.specs.Kept.{Kept}
use Rattle.pps_types.specs.Bytes.{same}
use Rattle.pps_types.specs.History.{is_marked}
use Rattle.object_state.specs.Effect.{length_at, noted_in, noted_or}
use Rattle.object_state.specs.Entries.{attributes_in}

-- this is noted of the name, and what was noted of each other name stays
abbrev pub Notes : {X : Type 0} → List ℕ → X → List (List ℕ × X) → List (List ℕ × X) → Type 0
Notes name value old new = (other : List ℕ) → noted_in new other ≡ (if same name other then Some value else noted_in old other)

-- how long the printed line of the attribute of that name is by then: as it was noted, or else as it is in the map
abbrev pub length_then : List (List ℕ × Option ℕ) → Kept → List ℕ → Option ℕ
length_then notes m name = noted_or (noted_in notes name) (length_at name (attributes_in m))

-- the same of whether an attribute of that name is there and nonpersistent
abbrev pub is_marked_then : List (List ℕ × Bool) → Kept → List ℕ → Bool
is_marked_then notes m name = noted_or (noted_in notes name) (is_marked name (attributes_in m))
