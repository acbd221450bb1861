-- Lists in which the numbers of the entries rise, and where a number stands in one.
use Rattle.std.specs.Prelude.{◌≡◌, ℕ, zero, suc, ◌<◌, List, [], ◌∷◌}

module _ {X : Type 0} where
  -- each number is above n
  abbrev pub AllAbove : (X → ℕ) → ℕ → List X → Type 0
  AllAbove number n [] = Unit {0}
  AllAbove number n (x ∷ xs) = (n < number x) × AllAbove number n xs

  -- the numbers strictly rise
  abbrev pub IsRising : (X → ℕ) → List X → Type 0
  IsRising number [] = Unit {0}
  IsRising number (x ∷ xs) = AllAbove number (number x) xs × IsRising number xs

  -- n stands nowhere and would go to place i: lower numbers before it, higher ones from it on
  abbrev pub IsGapFor : (X → ℕ) → List X → ℕ → ℕ → Type 0
  IsGapFor number xs n zero = AllAbove number n xs
  IsGapFor number [] n (suc i) = ⊥
  IsGapFor number (x ∷ xs) n (suc i) = (number x < n) × IsGapFor number xs n i

  -- n stands at place i alone: lower numbers before it, higher ones behind it
  abbrev pub IsPlaceOf : (X → ℕ) → List X → ℕ → ℕ → Type 0
  IsPlaceOf number [] n i = ⊥
  IsPlaceOf number (x ∷ xs) n zero = (number x ≡ n) × AllAbove number n xs
  IsPlaceOf number (x ∷ xs) n (suc i) = (number x < n) × IsPlaceOf number xs n i
