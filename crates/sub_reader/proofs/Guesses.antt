-- A number that stands at a place of numbers that rise is alone there.
use Rattle.std.proofs.Common.{◌≡◌, ℕ, zero, suc, ◌<◌, List, [], ◌∷◌, length, get_or, ap, ◌∙◌, subst, arith}
use Rattle.pps_types.specs.Rising.{AllAbove, IsRising, IsPlaceOf}

module _ {X : Type 0} (number : X → ℕ) where
  above-at : (xs : List X) (n i : ℕ) (x : X) → AllAbove number n xs → i < length xs → get_or xs i x ≡ x → n < number x
  above-at [] n i x above lt at = absurd (omega arith)
  above-at (y ∷ ys) n zero x above lt at = subst (λ z. n < number z) at above.0
  above-at (y ∷ ys) n (suc i) x above lt at = above-at ys n i x above.1 (omega arith) at

  pub place-at : (xs : List X) (n i : ℕ) (x : X) → IsRising number xs → i < length xs → get_or xs i x ≡ x → number x ≡ n → IsPlaceOf number xs n i
  place-at [] n i x rising lt at same = absurd (omega arith)
  place-at (y ∷ ys) n zero x rising lt at same = let is : number y ≡ n = ap number at ∙ same in (is, subst (λ m. AllAbove number m ys) is rising.0)
  place-at (y ∷ ys) n (suc i) x rising lt at same = (subst (λ m. number y < m) same (above-at ys (number y) i x rising.0 (omega arith) at), place-at ys n i x rising.1 (omega arith) at same)
