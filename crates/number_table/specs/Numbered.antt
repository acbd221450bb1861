-- What a table is: values under numbers that rise, and how far its memory goes.
use Rattle.std.specs.Prelude.{◌≡◌, ◌≤◌, ℕ, ◌+◌, ◌-◌, ◌*◌, min, Bool, ◌&&◌, ◌==◌, List, [], ◌∷◌, Option, map, find, if◌then◌else◌}
use Rattle.std.specs.Option.{option_map}
use Rattle.std.specs.List.{AllZip}
use Rattle.std.specs.Cmp.Lexicographic.{pointwise}

-- a value, and the number that it stands under
pub record Entry (T : Type 0) : Type 0 where
  pub number : ℕ
  pub value : T

-- The entries, in rising number. Every number so far is below `next`. The index has `taken` numbers, those of entries and
-- some of values that left. There is memory for `room` more entries.
pub record Numbered (T : Type 0) : Type 0 where
  pub entries : List (Entry T)
  pub next : ℕ
  pub taken : ℕ
  pub room : ℕ

-- the most numbers that an index has for so many entries
abbrev pub most_taken : ℕ → ℕ
most_taken count = 2 * count + 16

module _ {X : Type 0} where
  -- the first that passes is changed
  abbrev pub on_first : (X → Bool) → (X → X) → List X → List X
  on_first test change [] = []
  on_first test change (x ∷ xs) = if test x then change x ∷ xs else x ∷ on_first test change xs

  -- the first that passes is taken out
  abbrev pub without_first : (X → Bool) → List X → List X
  without_first test [] = []
  without_first test (x ∷ xs) = if test x then xs else x ∷ without_first test xs

module _ {T : Type 0} where
  -- a value under its number
  abbrev pub entry_of : ℕ → T → Entry T
  entry_of number value = record { number = number; value = value }

  abbrev pub has_number : ℕ → Entry T → Bool
  has_number number entry = entry.number == number

  -- the values, in rising number
  abbrev pub values_of : Numbered T → List T
  values_of table = map (λ e. e.value) table.entries

  -- the value under a number, if there is one
  abbrev pub value_under : ℕ → List (Entry T) → Option T
  value_under number entries = option_map (λ e. e.value) (find (has_number number) entries)

  abbrev pub value_at : ℕ → Numbered T → Option T
  value_at number table = value_under number table.entries

  -- the table with another value under a number
  abbrev pub with_value : Numbered T → ℕ → T → Numbered T
  with_value table number value =
      record table { entries = on_first (has_number number) (λ e. record e { value = value }) table.entries }

  -- each value tells its number
  abbrev pub AllTell : (T → ℕ) → List (Entry T) → Type 0
  AllTell number_of [] = Unit {0}
  AllTell number_of (e ∷ es) = (number_of e.value ≡ e.number) × AllTell number_of es

  -- the values tell the numbers that they stand under
  abbrev pub IsNumberedBy : (T → ℕ) → Numbered T → Type 0
  IsNumberedBy number_of table = AllTell number_of table.entries

  -- ---- a table after a value came or left

  -- the entry of that number, if there is one, is taken out
  abbrev pub LosesEntry : ℕ → Numbered T → Numbered T → Type 0
  LosesEntry number old new = new.entries ≡ without_first (has_number number) old.entries

  -- there is room for one more entry where the index dropped a number, and else for as many as before
  abbrev pub GivesRoomBack : Numbered T → Numbered T → Type 0
  GivesRoomBack old new = min (old.taken + old.room - new.taken) (old.room + 1) ≤ new.room

  -- ---- where each value has its number in it, as a function of it gives

  -- the value found is the first that has the number in it
  abbrev pub IsFoundByValue : ℕ → Numbered T → Option T → Type 0
  IsFoundByValue number table found =
      (number_of : T → ℕ) → IsNumberedBy number_of table → found ≡ find (λ x. number_of x == number) (values_of table)

  -- the first value that has the number in it is taken out
  abbrev pub LosesByValue : ℕ → Numbered T → Numbered T → Type 0
  LosesByValue number old new =
      (number_of : T → ℕ) → IsNumberedBy number_of old → values_of new ≡ without_first (λ x. number_of x == number) (values_of old)

  -- where each value had its number in it, each has it still
  abbrev pub StaysNumbered : Numbered T → Numbered T → Type 0
  StaysNumbered old new = (number_of : T → ℕ) → IsNumberedBy number_of old → IsNumberedBy number_of new

  -- the same where a value came under that number, if it has the number in it
  abbrev pub StaysNumberedWith : ℕ → T → Numbered T → Numbered T → Type 0
  StaysNumberedWith number value old new =
      (number_of : T → ℕ) → IsNumberedBy number_of old → number_of value ≡ number → IsNumberedBy number_of new

  -- ---- the same in two tables

  -- whether equal values stand under one number
  abbrev pub is_same_entry : (T → T → Bool) → Entry T → Entry T → Bool
  is_same_entry eq one other = (one.number == other.number) && eq one.value other.value

  -- whether equal values stand under the same numbers, and the same number is next
  abbrev pub is_same : (T → T → Bool) → Numbered T → Numbered T → Bool
  is_same eq one other = (one.next == other.next) && pointwise (is_same_entry eq) one.entries other.entries

  -- under the same number stands a clone of the value
  abbrev pub IsCloneEntry : (T → T → Type 0) → Entry T → Entry T → Type 0
  IsCloneEntry is_clone entry clone = (clone.number ≡ entry.number) × is_clone entry.value clone.value

  -- under the same numbers are clones of the values, in the same order
  abbrev pub HasClones : (T → T → Type 0) → Numbered T → Numbered T → Type 0
  HasClones is_clone table copy = AllZip (IsCloneEntry is_clone) table.entries copy.entries

  -- a clone equals what it is a clone of
  abbrev pub ClonesAreEqual : (T → T → Type 0) → Type 0
  ClonesAreEqual is_clone = (value clone : T) → is_clone value clone → clone ≡ value
