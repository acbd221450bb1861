-- What an edit at a number's place does, in the words of the definitions.
use Rattle.std.proofs.Common.{◌≡◌, ℕ, zero, suc, ◌<◌, List, [], ◌∷◌, true, false, not, ◌==◌, Some, None, length, get_or, set, filter, find, refl, sym, ap, arith, ◌∙◌}
use Rattle.std.specs.List.{insert, remove, list_any}
use Rattle.std.proofs.lemmas.Bool.Decides.{nat_tests}
use Rattle.pps_types.specs.Outbox.{put_rising}
use Rattle.pps_types.specs.Rising.{AllAbove, IsRising, IsGapFor, IsPlaceOf}

module _ {X : Type 0} (number : X → ℕ) where
  -- ---- above a number, it stands nowhere

  any_above : (n : ℕ) (xs : List X) → AllAbove number n xs → list_any (λ e. number e == n) xs ≡ false
  any_above n [] above = refl
  any_above n (x ∷ xs) above = grind (arith, nat_tests, above.0, any_above n xs above.1)

  find_above : (n : ℕ) (xs : List X) → AllAbove number n xs → find (λ e. number e == n) xs ≡ None
  find_above n [] above = refl
  find_above n (x ∷ xs) above = grind (arith, nat_tests, above.0, find_above n xs above.1)

  filter_above : (n : ℕ) (xs : List X) → AllAbove number n xs → filter (λ e. not (number e == n)) xs ≡ xs
  filter_above n [] above = refl
  filter_above n (x ∷ xs) above = grind (arith, nat_tests, above.0, filter_above n xs above.1)

  put_above : (e : X) (xs : List X) → AllAbove number (number e) xs → put_rising number e xs ≡ e ∷ xs
  put_above e [] above = refl
  put_above e (x ∷ xs) above = grind (arith, nat_tests, above.0)

  lower_above : (m n : ℕ) (xs : List X) → m < n → AllAbove number n xs → AllAbove number m xs
  lower_above m n [] lower above = tt
  lower_above m n (x ∷ xs) lower above = (omega (arith, above.0), lower_above m n xs lower above.1)

  -- ---- a gap

  pub any_gap : (n : ℕ) (xs : List X) (i : ℕ) → IsGapFor number xs n i → list_any (λ e. number e == n) xs ≡ false
  any_gap n xs zero gap = any_above n xs gap
  any_gap n [] (suc i) gap = absurd gap
  any_gap n (x ∷ xs) (suc i) gap = grind (arith, nat_tests, gap.0, any_gap n xs i gap.1)

  pub find_gap : (n : ℕ) (xs : List X) (i : ℕ) → IsGapFor number xs n i → find (λ e. number e == n) xs ≡ None
  find_gap n xs zero gap = find_above n xs gap
  find_gap n [] (suc i) gap = absurd gap
  find_gap n (x ∷ xs) (suc i) gap = grind (arith, nat_tests, gap.0, find_gap n xs i gap.1)

  pub filter_gap : (n : ℕ) (xs : List X) (i : ℕ) → IsGapFor number xs n i → filter (λ e. not (number e == n)) xs ≡ xs
  filter_gap n xs zero gap = filter_above n xs gap
  filter_gap n [] (suc i) gap = absurd gap
  filter_gap n (x ∷ xs) (suc i) gap = grind (arith, nat_tests, gap.0, filter_gap n xs i gap.1)

  put_in_gap : (e : X) (xs : List X) (i : ℕ) → IsGapFor number xs (number e) i → put_rising number e xs ≡ insert xs i e
  put_in_gap e xs zero gap = put_above e xs gap
  put_in_gap e [] (suc i) gap = absurd gap
  put_in_gap e (x ∷ xs) (suc i) gap = grind (arith, nat_tests, gap.0, put_in_gap e xs i gap.1)

  -- an entry goes into its gap
  pub put_gap : (e : X) (xs : List X) (i : ℕ) → IsGapFor number xs (number e) i → insert xs i e ≡ put_rising number e (filter (λ x. not (number x == number e)) xs)
  put_gap e xs i gap = sym (ap (put_rising number e) (filter_gap (number e) xs i gap) ∙ put_in_gap e xs i gap)

  above_insert : (n : ℕ) (e : X) (xs : List X) (i : ℕ) → AllAbove number n xs → n < number e → AllAbove number n (insert xs i e)
  above_insert n e xs zero above lower = (lower, above)
  above_insert n e [] (suc i) above lower = (lower, tt)
  above_insert n e (x ∷ xs) (suc i) above lower = (above.0, above_insert n e xs i above.1 lower)

  pub rising_insert : (e : X) (xs : List X) (i : ℕ) → IsRising number xs → IsGapFor number xs (number e) i → IsRising number (insert xs i e)
  rising_insert e xs zero rising gap = (gap, rising)
  rising_insert e [] (suc i) rising gap = absurd gap
  rising_insert e (x ∷ xs) (suc i) rising gap = (above_insert (number x) e xs i rising.0 gap.0, rising_insert e xs i rising.1 gap.1)

  -- ---- a place

  pub in_range : (n : ℕ) (xs : List X) (i : ℕ) → IsPlaceOf number xs n i → i < length xs
  in_range n [] i place = absurd place
  in_range n (x ∷ xs) zero place = omega arith
  in_range n (x ∷ xs) (suc i) place = omega (arith, in_range n xs i place.1)

  pub any_place : (n : ℕ) (xs : List X) (i : ℕ) → IsPlaceOf number xs n i → list_any (λ e. number e == n) xs ≡ true
  any_place n [] i place = absurd place
  any_place n (x ∷ xs) zero place = grind (arith, nat_tests, place.0)
  any_place n (x ∷ xs) (suc i) place = grind (arith, nat_tests, place.0, any_place n xs i place.1)

  pub find_place : (n : ℕ) (xs : List X) (i : ℕ) (e : X) → IsPlaceOf number xs n i → e ≡ get_or xs i e → Some e ≡ find (λ x. number x == n) xs
  find_place n [] i e place is = absurd place
  find_place n (x ∷ xs) zero e place is = grind (arith, nat_tests, place.0, is)
  find_place n (x ∷ xs) (suc i) e place is = grind (arith, nat_tests, place.0, find_place n xs i e place.1 is)

  pub filter_place : (n : ℕ) (xs : List X) (i : ℕ) → IsPlaceOf number xs n i → remove xs i ≡ filter (λ x. not (number x == n)) xs
  filter_place n [] i place = absurd place
  filter_place n (x ∷ xs) zero place = grind (arith, nat_tests, place.0, filter_above n xs place.1)
  filter_place n (x ∷ xs) (suc i) place = grind (arith, nat_tests, place.0, filter_place n xs i place.1)

  -- an entry takes the place of one of its number
  pub put_place : (e : X) (xs : List X) (i : ℕ) → IsPlaceOf number xs (number e) i → set xs i e ≡ put_rising number e (filter (λ x. not (number x == number e)) xs)
  put_place e [] i place = absurd place
  put_place e (x ∷ xs) zero place = grind (arith, nat_tests, place.0, filter_above (number e) xs place.1, put_above e xs place.1)
  put_place e (x ∷ xs) (suc i) place = grind (arith, nat_tests, place.0, put_place e xs i place.1)

  above_set : (n : ℕ) (e : X) (xs : List X) (i : ℕ) → AllAbove number n xs → n < number e → AllAbove number n (set xs i e)
  above_set n e [] i above lower = tt
  above_set n e (x ∷ xs) zero above lower = (lower, above.1)
  above_set n e (x ∷ xs) (suc i) above lower = (above.0, above_set n e xs i above.1 lower)

  pub rising_set : (e : X) (xs : List X) (i : ℕ) → IsRising number xs → IsPlaceOf number xs (number e) i → IsRising number (set xs i e)
  rising_set e [] i rising place = absurd place
  rising_set e (x ∷ xs) zero rising place = (place.1, rising.1)
  rising_set e (x ∷ xs) (suc i) rising place = (above_set (number x) e xs i rising.0 place.0, rising_set e xs i rising.1 place.1)

  above_remove : (n : ℕ) (xs : List X) (i : ℕ) → AllAbove number n xs → AllAbove number n (remove xs i)
  above_remove n [] zero above = tt
  above_remove n [] (suc i) above = tt
  above_remove n (x ∷ xs) zero above = above.1
  above_remove n (x ∷ xs) (suc i) above = (above.0, above_remove n xs i above.1)

  pub rising_remove : (xs : List X) (i : ℕ) → IsRising number xs → IsRising number (remove xs i)
  rising_remove [] zero rising = tt
  rising_remove [] (suc i) rising = tt
  rising_remove (x ∷ xs) zero rising = rising.1
  rising_remove (x ∷ xs) (suc i) rising = (above_remove (number x) xs i rising.0, rising_remove xs i rising.1)
