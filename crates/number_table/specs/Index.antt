-- How a table lays out its values. No public clause cites this module.
use Rattle.std.specs.Prelude.{◌≡◌, ℕ, zero, suc, Bool, ◌&&◌, ◌==◌, ◌<◌, ◌≤◌, List, [], ◌∷◌, Option, Some, None, is_some, IsSome, map, length, filter, get_or, if◌then◌else◌}
use Rattle.std.specs.Cmp.Lexicographic.{pointwise}
use Rattle.slab.specs.Slab.{Slab, get, slab_len}
use Rattle.number_table.specs.Numbered.{Entry, entry_of, is_same_entry, most_taken}
use Rattle.number_table.specs.declared.index.Place.{Place}
use Rattle.number_table.specs.declared.index.Held.{Held}

-- a number of the index, and its value until that has left
pub record Slot (T : Type 0) : Type 0 where
  pub number : ℕ
  pub value : Option T

-- numbers from `low` on that rise, all below `bound`
abbrev pub Rises : ℕ → List ℕ → ℕ → Type 0
Rises low [] bound = low ≤ bound
Rises low (n ∷ ns) bound = (low ≤ n) × Rises (suc n) ns bound

-- so many numbers are lower, and what follows is not
abbrev pub IsPlace : ℕ → ℕ → List ℕ → Type 0
IsPlace number zero [] = Unit {0}
IsPlace number zero (n ∷ ns) = number ≤ n
IsPlace number (suc place) [] = ⊥
IsPlace number (suc place) (n ∷ ns) = (n < number) × IsPlace number place ns

abbrev pub numbers_in : List Place → List ℕ
numbers_in index = map (λ p. p.number) index

-- the numbers rise within the bounds within which they rose
abbrev pub KeepsRising : List Place → List Place → Type 0
KeepsRising old new = (low bound : ℕ) → Rises low (numbers_in old) bound → Rises low (numbers_in new) bound

-- the key at a place
abbrev pub key_at : List Place → ℕ → ℕ
key_at index place = (get_or index place (record { number = 0; key = 0 })).key

module _ {T : Type 0} where
  abbrev pub numbers_of : List (Slot T) → List ℕ
  numbers_of slots = map (λ s. s.number) slots

  abbrev pub has_value : Slot T → Bool
  has_value slot = is_some slot.value

  -- whether a slot has a value, under that number
  abbrev pub stands : ℕ → Slot T → Bool
  stands number slot = (slot.number == number) && has_value slot

  -- lower numbers before the place, and there the number with a value
  abbrev pub StandsAt : ℕ → ℕ → List (Slot T) → Type 0
  StandsAt number place [] = ⊥
  StandsAt number zero (s ∷ ss) = (s.number ≡ number) × IsSome s.value
  StandsAt number (suc place) (s ∷ ss) = (s.number < number) × StandsAt number place ss

  -- what a slot has, before the rest
  abbrev pub entry_before : ℕ → Option T → List (Entry T) → List (Entry T)
  entry_before number None rest = rest
  entry_before number (Some value) rest = record { number = number; value = value } ∷ rest

  -- what has a value, in order
  abbrev pub entries_in : List (Slot T) → List (Entry T)
  entries_in [] = []
  entries_in (s ∷ ss) = entry_before s.number s.value (entries_in ss)

  -- what a key of the slab has, if it has the value of that number
  abbrev pub value_for : ℕ → Option (Held T) → Option T
  value_for number None = None
  value_for number (Some held) = if held.number == number then Some held.value else None

  abbrev pub with_held_value : Held T → T → Held T
  with_held_value held value = record held { value = value }

  abbrev pub slot_at : Slab (Held T) → Place → Slot T
  slot_at values place = record { number = place.number; value = value_for place.number (get values place.key) }

  abbrev pub slots_in : Slab (Held T) → List Place → List (Slot T)
  slots_in values index = map (slot_at values) index

  -- the slots that have a value
  abbrev pub held_slots : Slab (Held T) → List Place → List (Slot T)
  held_slots values index = filter has_value (slots_in values index)

  -- what has a value in a part of the index, in order
  abbrev pub held_in : Slab (Held T) → List Place → List (Entry T)
  held_in values index = entries_in (slots_in values index)

  -- the first value of a part of the index has that number, and the others are in that rest of it
  abbrev pub BeginsWith : Slab (Held T) → List Place → ℕ → T → List Place → Type 0
  BeginsWith values index number value rest = held_in values index ≡ entry_of number value ∷ held_in values rest

  -- whether equal values are under the same numbers of two indexes
  abbrev pub has_same_entries : (T → T → Bool) → Slab (Held T) → List Place → Slab (Held T) → List Place → Bool
  has_same_entries eq values index other_values other_index =
      pointwise (is_same_entry eq) (held_in values index) (held_in other_values other_index)

  abbrev pub values_in : Slab (Held T) → List Place → List T
  values_in values index = map (λ e. e.value) (entries_in (slots_in values index))

  -- The numbers of the index rise below the next. The slab has just the values of the index, which are most of its numbers.
  pub record IsSound (values : Slab (Held T)) (index : List Place) (next : ℕ) : Type 0 where
    pub rises : Rises 0 (numbers_in index) next
    pub counted : slab_len values ≡ length (entries_in (slots_in values index))
    pub dense : length index ≤ most_taken (slab_len values)
    pub fits : slab_len values ≤ values.capacity
