-- What a binary search finds where numbers rise.
use Rattle.std.proofs.Common.{◌≡◌, ℕ, zero, suc, ◌<◌, ◌≤◌, List, [], ◌∷◌, length, get_or, Result, Ok, Err, IfOk, IfErr, sym, subst, arith}
use Rattle.std.specs.List.Sorted.{IsSearchInRange, IsBinarySearchResult, IsNonDecreasingBy}
use Rattle.std.specs.Ordering.{nat_cmp, ordering_index}
use Rattle.std.proofs.lemmas.Cmp.{ranked}
use Rattle.std.proofs.lemmas.Bool.Decides.{nat_tests}
use Rattle.pps_types.specs.Rising.{AllAbove, IsRising, IsGapFor, IsPlaceOf}

module _ {X : Type 0} (number : X → ℕ) where
  above_at : (n : ℕ) (xs : List X) (i : ℕ) (d : X) → AllAbove number n xs → i < length xs → n < number (get_or xs i d)
  above_at n [] i d above in_range = absurd (omega arith)
  above_at n (x ∷ xs) zero d above in_range = above.0
  above_at n (x ∷ xs) (suc i) d above in_range = above_at n xs i d above.1 (omega arith)

  -- what holds at each place
  above_from_places : (n : ℕ) (xs : List X) → ((j : ℕ) (d : X) → j < length xs → n < number (get_or xs j d)) → AllAbove number n xs
  above_from_places n [] at = tt
  above_from_places n (x ∷ xs) at = (at 0 x (omega arith), above_from_places n xs (λ j d lt. at (suc j) d (omega arith)))

  numbers_rise : (xs : List X) → IsRising number xs → (i j : ℕ) (d : X) → i ≤ j → j < length xs → number (get_or xs i d) ≤ number (get_or xs j d)
  numbers_rise [] rising i j d order in_range = absurd (omega arith)
  numbers_rise (x ∷ xs) rising zero zero d order in_range = omega arith
  numbers_rise (x ∷ xs) rising zero (suc j) d order in_range = omega (arith, above_at (number x) xs j d rising.0 (omega arith))
  numbers_rise (x ∷ xs) rising (suc i) zero d order in_range = absurd (omega arith)
  numbers_rise (x ∷ xs) rising (suc i) (suc j) d order in_range = numbers_rise xs rising.1 i j d (omega arith) (omega arith)

  -- the place where a number stands is its place
  pub place_found : (xs : List X) (n i : ℕ) → IsRising number xs → i < length xs → ((d : X) → number (get_or xs i d) ≡ n) → IsPlaceOf number xs n i
  place_found [] n i rising in_range is = absurd (omega arith)
  place_found (x ∷ xs) n zero rising in_range is = (is x, subst (λ m. AllAbove number m xs) (is x) rising.0)
  place_found (x ∷ xs) n (suc i) rising in_range is = (omega (arith, above_at (number x) xs i x rising.0 (omega arith), is x), place_found xs n i rising.1 (omega arith) is)

  gap_found : (xs : List X) (n i : ℕ) → i ≤ length xs → ((j : ℕ) (d : X) → j < i → number (get_or xs j d) < n) → ((j : ℕ) (d : X) → i ≤ j → j < length xs → n < number (get_or xs j d)) → IsGapFor number xs n i
  gap_found xs n zero in_range below above = above_from_places n xs (λ j d lt. above j d (omega arith) lt)
  gap_found [] n (suc i) in_range below above = absurd (omega arith)
  gap_found (x ∷ xs) n (suc i) in_range below above = (below 0 x (omega arith), gap_found xs n i (omega arith) (λ j d lt. below (suc j) d (omega arith)) (λ j d le lt. above (suc j) d (omega arith) (omega arith)))

  -- what a search answers
  pub record Searched (xs : List X) (n : ℕ) (r : Result ℕ ℕ) : Type 0 where
    pub found : IfOk r (IsPlaceOf number xs n)
    pub absent : IfErr r (IsGapFor number xs n)
    pub place : IfOk r (λ i. i < length xs)
    pub gap : IfErr r (λ i. i ≤ length xs)

  module _ (xs : List X) (rising : IsRising number xs) (n : ℕ) where
    -- the comparisons with n rise along the list, as a binary search asks
    comparisons_rise : IsNonDecreasingBy (λ x. ordering_index (nat_cmp (number x) n)) xs
    comparisons_rise i j d le lt = grind (arith, nat_tests, numbers_rise xs rising i j d (omega arith) lt)

    -- a binary search ends at the number, or at the gap for it
    pub searched : (r : Result ℕ ℕ) → IsSearchInRange r (length xs) → IsBinarySearchResult (λ x. nat_cmp (number x) n) xs r → Searched xs n r
    searched (Ok i) in_range equal = record { found = place_found xs n i rising in_range (λ d. ranked _ n _ (sym (equal d))); absent = tt; place = in_range; gap = tt }
    searched (Err i) in_range parted = record {
      found = tt;
      place = tt;
      gap = in_range;
      absent = gap_found xs n i in_range
          (λ j d lt. ranked _ n _ (sym ((parted comparisons_rise).0 j d (omega arith) lt)))
          (λ j d le lt. ranked _ n _ (sym ((parted comparisons_rise).1 j d le lt)));
    }
