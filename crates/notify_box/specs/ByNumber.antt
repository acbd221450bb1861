-- Entries that have numbers.
use Rattle.std.specs.Prelude.{◌≡◌, ◌<◌, ◌==◌, ℕ, not, false, List, filter, vec_len, vec_capacity, Vec}
use Rattle.std.specs.List.{list_any}

-- all but those of this number
abbrev pub all_but : {X : Type 0} → (X → ℕ) → ℕ → List X → List X
all_but number n xs = filter (λ e. not (number e == n)) xs

-- the entry has a place: that of the one of its number, or one that was taken for it
abbrev pub HasPlaceFor : {X A : Type 0} → (X → ℕ) → X → Vec X A → Type 0
HasPlaceFor number entry entries =
    list_any (λ e. number e == number entry) entries.items ≡ false → vec_len entries < vec_capacity entries
