-- The handles on an object or a directory in rising number, and the gaps that closed ones leave among them.
use Rattle.std.specs.Prelude.{◌≡◌, ℕ, zero, suc, ◌+◌, ◌*◌, ◌-◌, ◌<◌, ◌≤◌, ◌^◌, Bool, true, false, List, [], ◌∷◌, length, min, find, ◌==◌, Option, Some, None, IsSome, option_and_then, slice_set, slice_index_or}
use Rattle.std.specs.List.{AllByRecursion}
use Rattle.std.specs.Option.{option_map}
use Rattle.pps_types.specs.Plan.{on_first, without_first}
use Rattle.pps_types.specs.Rising.{IsRising, IsGapFor, IsPlaceOf}
use Rattle.sub_reader.specs.declared.opening.Opening.{Opening}
use Rattle.sub_reader.specs.declared.opening.Pulse.{Pulse}
use Rattle.sub_reader.specs.declared.row.HandleRow.{HandleRow}
use Rattle.sub_reader.specs.declared.row.Slot.{Slot}
use Rattle.sub_reader.specs.declared.row.Slot.TheVariants.{Row, Gap}

-- far more handles than have numbers
abbrev pub most_handles : ℕ
most_handles = 2 ^ 62

-- for how many more handles there is memory, where so many slots are taken
abbrev pub places_of : ℕ → ℕ → ℕ
places_of capacity count = min (capacity - count) (most_handles - count)

-- the most slots that so many handles keep taken
abbrev pub most_slots : ℕ → ℕ
most_slots count = 2 * count + 16

module _ {P : Type 0} where
  -- ---- one handle

  abbrev pub number_in : HandleRow P → ℕ
  number_in r = r.opening.number

  abbrev pub with_progress : P → HandleRow P → HandleRow P
  with_progress progress r = record r { progress = progress }

  abbrev pub parked_with : Option ℕ → HandleRow P → HandleRow P
  parked_with size r = record r { parked = size }

  abbrev pub armed_with : Option Pulse → HandleRow P → HandleRow P
  armed_with pulse r = record r { armed = pulse }

  -- ---- one slot

  abbrev pub number_at : Slot P → ℕ
  number_at (Row r) = r.opening.number
  number_at (Gap n) = n

  abbrev pub is_row : Slot P → Bool
  is_row (Row r) = true
  is_row (Gap n) = false

  abbrev pub row_of : Slot P → Option (HandleRow P)
  row_of (Row r) = Some r
  row_of (Gap n) = None

  abbrev pub on_row : (HandleRow P → HandleRow P) → Slot P → Slot P
  on_row change (Row r) = Row (change r)
  on_row change (Gap n) = Gap n

  -- how far the handle has read, if there is one
  abbrev pub progress_of : Slot P → Option P
  progress_of s = option_map (λ r. r.progress) (row_of s)

  -- the slot once the handle, if there is one, has read so far
  abbrev pub slot_with_progress : Slot P → P → Slot P
  slot_with_progress s progress = on_row (with_progress progress) s

  -- ---- all slots

  abbrev pub row_before : Slot P → List (HandleRow P) → List (HandleRow P)
  row_before (Row r) rs = r ∷ rs
  row_before (Gap n) rs = rs

  -- the handles, in their order
  abbrev pub rows_in : List (Slot P) → List (HandleRow P)
  rows_in [] = []
  rows_in (s ∷ ss) = row_before s (rows_in ss)

  -- the handle at a place, if there is one
  abbrev pub row_at : ℕ → List (Slot P) → Option (HandleRow P)
  row_at place [] = None
  row_at zero (s ∷ ss) = row_of s
  row_at (suc place) (s ∷ ss) = row_at place ss

  -- the slots once the handle at a place, if there is one, has changed
  abbrev pub changed_at : ℕ → (HandleRow P → HandleRow P) → List (Slot P) → List (Slot P)
  changed_at place change [] = []
  changed_at zero change (s ∷ ss) = on_row change s ∷ ss
  changed_at (suc place) change (s ∷ ss) = s ∷ changed_at place change ss

  abbrev pub rank_past : Slot P → ℕ → ℕ
  rank_past (Row r) n = suc n
  rank_past (Gap m) n = n

  -- how many handles are before a place
  abbrev pub rank : ℕ → List (Slot P) → ℕ
  rank zero ss = 0
  rank (suc place) [] = 0
  rank (suc place) (s ∷ ss) = rank_past s (rank place ss)

  -- whether the last slot has a handle, where `none` says it for no slots
  abbrev pub ends_in_row : Bool → List (Slot P) → Bool
  ends_in_row none [] = none
  ends_in_row none (s ∷ ss) = ends_in_row (is_row s) ss

  abbrev pub EndsInRow : List (Slot P) → Type 0
  EndsInRow slots = ends_in_row true slots ≡ true

  -- no handle has the number, which is between those of two neighbours
  abbrev pub IsAbsent : ℕ → List (HandleRow P) → Type 0
  IsAbsent number rows = (k : ℕ) × IsGapFor number_in rows number k

  -- The numbers rise, `count` slots have a handle, which is most of them, and the last is one of these.
  pub record IsSound (slots : List (Slot P)) (count : ℕ) : Type 0 where
    pub rising : IsRising number_at slots
    pub counted : count ≡ length (rows_in slots)
    pub dense : length slots ≤ most_slots count
    pub ends : EndsInRow slots
    pub few : length slots ≤ most_handles

-- The slots, in rising number: handles, and gaps between them. For `places` more handles there is memory.
pub record Rows (P : Type 0) : Type 0 where
  pub slots : List (Slot P)
  pub places : ℕ

module _ {P : Type 0} where
  -- the handles, in rising number
  abbrev pub rows_of : Rows P → List (HandleRow P)
  rows_of rows = rows_in rows.slots

  -- there is a handle at a place
  abbrev pub HasRowAt : ℕ → Rows P → Type 0
  HasRowAt place rows = IsSome (row_at place rows.slots)

  -- that handle, whatever the default is
  abbrev pub IsRowAt : ℕ → Rows P → HandleRow P → Type 0
  IsRowAt place rows r = (d : HandleRow P) → r ≡ slice_index_or (rows_of rows) (rank place rows.slots) d

  -- how far that handle has read
  abbrev pub progress_at : ℕ → Rows P → Option P
  progress_at place rows = option_map (λ r. r.progress) (row_at place rows.slots)

  -- the rows once it has read so far
  abbrev pub with_progress_at : Rows P → ℕ → P → Rows P
  with_progress_at rows place progress = record rows { slots = changed_at place (with_progress progress) rows.slots }

  -- it is the handle of a number, alone
  abbrev pub IsRowOf : ℕ → Rows P → ℕ → Type 0
  IsRowOf number rows place = IsPlaceOf number_in (rows_of rows) number (rank place rows.slots)

  -- the handle of a number, if it is open
  abbrev pub row_numbered : ℕ → Rows P → Option (HandleRow P)
  row_numbered number rows = find (λ r. number_in r == number) (rows_of rows)

  -- what its open fixed
  abbrev pub opening_of : ℕ → Rows P → Option Opening
  opening_of number rows = option_map (λ r. r.opening) (row_numbered number rows)

  -- the size of the read that waits on it
  abbrev pub parked_of : ℕ → Rows P → Option ℕ
  parked_of number rows = option_and_then (λ r. r.parked) (row_numbered number rows)

  -- the pulse that waits on it
  abbrev pub armed_of : ℕ → Rows P → Option Pulse
  armed_of number rows = option_and_then (λ r. r.armed) (row_numbered number rows)

  -- just the handle of a number, if it is open, is changed
  abbrev pub IsChangedOf : ℕ → (HandleRow P → HandleRow P) → Rows P → Rows P → Type 0
  IsChangedOf number change old new = rows_of new ≡ on_first (λ r. number_in r == number) change (rows_of old)

  -- just the handle of a number, if it is open, is gone
  abbrev pub IsWithout : ℕ → Rows P → Rows P → Type 0
  IsWithout number old new = rows_of new ≡ without_first (λ r. number_in r == number) (rows_of old)

  -- just the handle at a place is changed
  abbrev pub IsChangedAt : ℕ → (HandleRow P → HandleRow P) → Rows P → Rows P → Type 0
  IsChangedAt place change old new = (d : HandleRow P) → rows_of new
      ≡ slice_set (rows_of old) (rank place old.slots) (change (slice_index_or (rows_of old) (rank place old.slots) d))

  -- the same of the slots
  abbrev pub IsSlotChangedAt : ℕ → (HandleRow P → HandleRow P) → Rows P → Rows P → Type 0
  IsSlotChangedAt place change old new = (d : Slot P) → new.slots
      ≡ slice_set old.slots place (on_row change (slice_index_or old.slots place d))

  -- a handle is above all others
  abbrev pub IsAbove : HandleRow P → Rows P → Type 0
  IsAbove row rows = AllByRecursion (λ (r : HandleRow P). number_in r < number_in row) (rows_of rows)
