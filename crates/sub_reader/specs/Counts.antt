-- How many handles have their first owed record at each position.
use Rattle.std.specs.Prelude.{◌≡◌, ℕ, zero, suc, ◌+◌, ◌-◌, ◌<◌, ◌≤◌, ◌^◌, ◌==◌, if◌then◌else◌, List, [], ◌∷◌, length, slice_index, slice_set}
use Rattle.std.specs.List.{sum_by, AllByRecursion}
use Rattle.sub_reader.specs.declared.place.Place.{Place}
use Rattle.sub_reader.specs.declared.place.Place.TheVariants.{At}
use Rattle.sub_reader.specs.Readers.{Reader}

-- whether the first record that is owed stands there, as a number
abbrev pub stands : ℕ → Place → ℕ
stands position (At first owed) = if first == position then 1 else 0
stands position _ = 0

-- how many handles stand at a position
abbrev pub standing : List Reader → ℕ → ℕ
standing readers position = sum_by (λ r. stands position r.progress) readers

abbrev pub IsCounted : ℕ → List Reader → List ℕ → Type 0
IsCounted start readers counts = (i : ℕ) → i < length counts → slice_index counts i ≡ standing readers (start + i)

-- the counts have a handle at this place
abbrev pub IsCountedIn : ℕ → Place → List ℕ → Type 0
IsCountedIn start place counts = (i : ℕ) → i < length counts → stands (start + i) place ≤ slice_index counts i

-- each of them can rise by one
abbrev pub CanRise : List ℕ → Type 0
CanRise counts = (i : ℕ) → i < length counts → slice_index counts i + 1 < 2 ^ 64

-- a place between two positions
abbrev pub IsWithin : ℕ → ℕ → Place → Type 0
IsWithin start end (At first owed) = (start ≤ first) × (first < end)
IsWithin start end _ = Unit {0}

-- each is at a place within so many from a position on
abbrev pub AreWithin : ℕ → ℕ → List Reader → Type 0
AreWithin start count readers = AllByRecursion (λ (r : Reader). IsWithin start (start + count) r.progress) readers

-- the counts once a handle leaves its place, and once it takes one
abbrev pub uncounted : ℕ → Place → List ℕ → List ℕ
uncounted start (At first owed) counts = slice_set counts (first - start) (slice_index counts (first - start) - 1)
uncounted start _ counts = counts

abbrev pub counted : ℕ → Place → List ℕ → List ℕ
counted start (At first owed) counts = slice_set counts (first - start) (slice_index counts (first - start) + 1)
counted start _ counts = counts

abbrev pub recounted : ℕ → Place → Place → List ℕ → List ℕ
recounted start from to counts = counted start to (uncounted start from counts)

-- how many zeros are in front
abbrev pub zeros : List ℕ → ℕ
zeros [] = 0
zeros (zero ∷ counts) = suc (zeros counts)
zeros (suc n ∷ counts) = 0

-- the first position is somebody's
abbrev pub IsExact : List ℕ → Type 0
IsExact counts = zeros counts ≡ 0
