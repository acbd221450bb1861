-- What a chain is: its first position, its items from there on, and for how many more there is room.
use Rattle.std.specs.Prelude.{◌≡◌, ℕ, ◌+◌, Bool, ◌&&◌, ◌==◌, List, length, Result, IfOk}
use Rattle.std.specs.Cmp.Lexicographic.{pointwise}

pub record Span (T : Type 0) : Type 0 where
  pub start : ℕ
  pub items : List T
  pub room : ℕ

-- the position behind the last item
abbrev pub end_of : {T : Type 0} → Span T → ℕ
end_of chain = chain.start + length chain.items

-- whether equal items stand at the same positions
abbrev pub is_same : {T : Type 0} → (T → T → Bool) → Span T → Span T → Bool
is_same eq one other = (one.start == other.start) && pointwise eq one.items other.items

-- a clone equals what it is a clone of
abbrev pub ClonesAreEqual : {T : Type 0} → (T → T → Type 0) → Type 0
ClonesAreEqual {T} is_clone = (item clone : T) → is_clone item clone → clone ≡ item

-- where each clone equals its item, the copy has the same items
abbrev pub CopiesItems : {T E : Type 0} → (T → T → Type 0) → Span T → Result (Span T) E → Type 0
CopiesItems is_clone chain result = ClonesAreEqual is_clone → IfOk result (λ copy. copy.items ≡ chain.items)
