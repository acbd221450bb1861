-- Where attributes stand that a filter matches.
use Rattle.std.specs.Prelude.{◌≡◌, ◌↔◌, ℕ, ◌<◌, ◌≤◌, List, Option, Some, true, false, ◌&&◌, nat_le, nat_lt, if◌then◌else◌, length, slice_get}
use Rattle.std.specs.Option.{option_map_or}
use Rattle.pps_types.specs.Filter.{Part, matches, part_matches}
use Rattle.pps_types.specs.History.{Attribute, line_of}

-- the part matches the attribute in this place, where there is one, and no other
abbrev pub IsPlaceOf : Part → List Attribute → Option ℕ → Type 0
IsPlaceOf part attributes place = (i : ℕ) (a : Attribute) → slice_get attributes i ≡ Some a → (part_matches (line_of a) part ≡ true) ↔ (place ≡ Some i)

-- the filter matches the attribute in the second place, or there is none there, and none of those from the first place on before it
pub record IsFirstPlace (parts : List Part) (attributes : List Attribute) (from place : ℕ) : Type 0 where
  pub later : from ≤ place
  pub within : place ≤ length attributes
  pub matched : (a : Attribute) → slice_get attributes place ≡ Some a → matches (Some parts) (line_of a) ≡ true
  pub others : (i : ℕ) (a : Attribute) → from ≤ i → i < place → slice_get attributes i ≡ Some a → matches (Some parts) (line_of a) ≡ false

-- the filter matches the attribute in this place, or there is none there
pub record IsReached (parts : List Part) (attributes : List Attribute) (place : ℕ) : Type 0 where
  pub within : place ≤ length attributes
  pub matched : (a : Attribute) → slice_get attributes place ≡ Some a → matches (Some parts) (line_of a) ≡ true

-- that place, where it is from `from` on and before `first`; else `first`
abbrev pub earlier_place : Option ℕ → ℕ → ℕ → ℕ
earlier_place place from first = option_map_or (λ p. if nat_le from p && nat_lt p first then p else first) place first
