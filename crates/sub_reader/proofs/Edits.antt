-- What an edit at a number's place does where numbers rise, in the words of the plan.
use Rattle.std.proofs.Common.{◌≡◌, ℕ, zero, suc, ◌<◌, Bool, true, false, cond, List, [], ◌∷◌, ◌++◌, ◌==◌, length, map, find, get_or, set, Some, None, refl, ap, subst, sym, arith, ◌∙◌}
use Rattle.std.specs.List.{AllByRecursion, remove}
use Rattle.std.proofs.lemmas.Bool.Decides.{nat_tests}
use Rattle.pps_types.specs.Plan.{on_first, without_first}
use Rattle.pps_types.specs.Rising.{AllAbove, IsRising, IsGapFor, IsPlaceOf}

module _ {X : Type 0} (number : X → ℕ) where
  -- ---- above a number, it stands nowhere

  change_above : (change : X → X) (n : ℕ) (xs : List X) → AllAbove number n xs → on_first (λ x. number x == n) change xs ≡ xs
  change_above change n [] above = refl
  change_above change n (x ∷ xs) above = grind (arith, nat_tests, above.0, change_above change n xs above.1)

  without_above : (n : ℕ) (xs : List X) → AllAbove number n xs → without_first (λ x. number x == n) xs ≡ xs
  without_above n [] above = refl
  without_above n (x ∷ xs) above = grind (arith, nat_tests, above.0, without_above n xs above.1)

  -- ---- a gap

  pub change_gap : (change : X → X) (n : ℕ) (xs : List X) (i : ℕ) → IsGapFor number xs n i → on_first (λ x. number x == n) change xs ≡ xs
  change_gap change n xs zero gap = change_above change n xs gap
  change_gap change n [] (suc i) gap = absurd gap
  change_gap change n (x ∷ xs) (suc i) gap = grind (arith, nat_tests, gap.0, change_gap change n xs i gap.1)

  pub without_gap : (n : ℕ) (xs : List X) (i : ℕ) → IsGapFor number xs n i → without_first (λ x. number x == n) xs ≡ xs
  without_gap n xs zero gap = without_above n xs gap
  without_gap n [] (suc i) gap = absurd gap
  without_gap n (x ∷ xs) (suc i) gap = grind (arith, nat_tests, gap.0, without_gap n xs i gap.1)

  -- ---- a place

  pub change_place : (change : X → X) (n : ℕ) (xs : List X) (i : ℕ) (d : X) → IsPlaceOf number xs n i → on_first (λ x. number x == n) change xs ≡ set xs i (change (get_or xs i d))
  change_place change n [] i d place = absurd place
  change_place change n (x ∷ xs) zero d place = grind (arith, nat_tests, place.0)
  change_place change n (x ∷ xs) (suc i) d place = grind (arith, nat_tests, place.0, change_place change n xs i d place.1)

  pub without_place : (n : ℕ) (xs : List X) (i : ℕ) → IsPlaceOf number xs n i → without_first (λ x. number x == n) xs ≡ remove xs i
  without_place n [] i place = absurd place
  without_place n (x ∷ xs) zero place = grind (arith, nat_tests, place.0)
  without_place n (x ∷ xs) (suc i) place = grind (arith, nat_tests, place.0, without_place n xs i place.1)

  -- ---- what keeps numbers rising

  above_map : (f : X → X) → ((x : X) → number (f x) ≡ number x) → (n : ℕ) (xs : List X) → AllAbove number n xs → AllAbove number n (map f xs)
  above_map f same n [] above = tt
  above_map f same n (x ∷ xs) above = (omega (arith, same x, above.0), above_map f same n xs above.1)

  pub rising_map : (f : X → X) → ((x : X) → number (f x) ≡ number x) → (xs : List X) → IsRising number xs → IsRising number (map f xs)
  rising_map f same [] rising = tt
  rising_map f same (x ∷ xs) rising = (subst (λ n. AllAbove number n (map f xs)) (sym (same x)) (above_map f same (number x) xs rising.0), rising_map f same xs rising.1)

  above_set : (n : ℕ) (x d : X) (xs : List X) (k : ℕ) → AllAbove number n xs → number x ≡ number (get_or xs k d) → k < length xs → AllAbove number n (set xs k x)
  above_set n x d [] k above same lt = tt
  above_set n x d (y ∷ ys) zero above same lt = (omega (arith, same, above.0), above.1)
  above_set n x d (y ∷ ys) (suc k) above same lt = (above.0, above_set n x d ys k above.1 same (omega arith))

  -- one takes the place of another of its number
  pub rising_set : (x d : X) (xs : List X) (k : ℕ) → IsRising number xs → number x ≡ number (get_or xs k d) → k < length xs → IsRising number (set xs k x)
  rising_set x d [] k rising same lt = tt
  rising_set x d (y ∷ ys) zero rising same lt = (subst (λ n. AllAbove number n ys) (sym same) rising.0, rising.1)
  rising_set x d (y ∷ ys) (suc k) rising same lt = (above_set (number y) x d ys k rising.0 same (omega arith), rising_set x d ys k rising.1 same (omega arith))

  above_push : (n : ℕ) (xs : List X) (x : X) → AllAbove number n xs → n < number x → AllAbove number n (xs ++ x ∷ [])
  above_push n [] x above lt = (lt, tt)
  above_push n (y ∷ ys) x above lt = (above.0, above_push n ys x above.1 lt)

  pub rising_push : (xs : List X) (x : X) → IsRising number xs → AllByRecursion (λ y. number y < number x) xs → IsRising number (xs ++ x ∷ [])
  rising_push [] x rising below = (tt, tt)
  rising_push (y ∷ ys) x rising below = (above_push (number y) ys x rising.0 below.0, rising_push ys x rising.1 below.1)

-- what holds of a list, and of the list once any one of it has changed, holds once the first that passes has
pub on_first_keeps : {X : Type 0} (test : X → Bool) (change : X → X) (K : List X → Type 0) (xs : List X) → K xs → ((k : ℕ) (d : X) → k < length xs → K (set xs k (change (get_or xs k d)))) → K (on_first test change xs)
on_first_keeps test change K [] here each = here
on_first_keeps test change K (x ∷ xs) here each =
    elim (test x) as (λ b. K (cond b (change x ∷ xs) (x ∷ on_first test change xs)))
    [ true ↦ each zero x (omega arith) | false ↦ on_first_keeps test change (λ ys. K (x ∷ ys)) xs here (λ k d lt. each (suc k) d (omega (arith, lt))) ]

-- the same where one is taken out
pub without_first_keeps : {X : Type 0} (test : X → Bool) (K : List X → Type 0) (xs : List X) → K xs → ((k : ℕ) → k < length xs → K (remove xs k)) → K (without_first test xs)
without_first_keeps test K [] here each = here
without_first_keeps test K (x ∷ xs) here each =
    elim (test x) as (λ b. K (cond b xs (x ∷ without_first test xs)))
    [ true ↦ each zero (omega arith) | false ↦ without_first_keeps test (λ ys. K (x ∷ ys)) xs here (λ k lt. each (suc k) (omega (arith, lt))) ]

-- the first that passes has a place, and is the one that is taken out
pub record IsFirst {X : Type 0} (test : X → Bool) (xs : List X) (x : X) (k : ℕ) : Type 0 where
  pub within : k < length xs
  pub is : (d : X) → x ≡ get_or xs k d
  pub rest : without_first test xs ≡ remove xs k

pub first_at : {X : Type 0} (test : X → Bool) (xs : List X) (x : X) → Some x ≡ find test xs → (k : ℕ) × IsFirst test xs x k
first_at test [] x found = absurd cc
first_at test (y ∷ ys) x found = by (test y) refl (λ e. first_at test ys x e) found
  where
    by : (b : Bool) → test y ≡ b → (Some x ≡ find test ys → (k : ℕ) × IsFirst test ys x k) → Some x ≡ cond b (Some y) (find test ys) → (k : ℕ) × IsFirst test (y ∷ ys) x k
    by true is later found = (zero, record { within = omega arith; is = λ d. cc; rest = ap (λ b. cond b ys (y ∷ without_first test ys)) is })
    by false is later found =
        let rest = later found in
        (suc rest.0, record { within = omega (arith, rest.1.within); is = rest.1.is; rest = ap (λ b. cond b ys (y ∷ without_first test ys)) is ∙ ap (λ zs. y ∷ zs) rest.1.rest })

-- where none passes, none is taken out
pub none_first : {X : Type 0} (test : X → Bool) (xs : List X) → None ≡ find test xs → without_first test xs ≡ xs
none_first test [] none = refl
none_first test (x ∷ xs) none =
    elim (test x) as (λ b. None ≡ cond b (Some x) (find test xs) → cond b xs (x ∷ without_first test xs) ≡ x ∷ xs)
    [ true ↦ (λ none. absurd cc) | false ↦ (λ none. ap (λ ys. x ∷ ys) (none_first test xs none)) ] none

-- where something tells the same numbers, they stand at the same places
module _ {X Y : Type 0} (number : X → ℕ) (told : Y → ℕ) (see : X → Y) (same : (x : X) → told (see x) ≡ number x) where
  above_map_to : (n : ℕ) (xs : List X) → AllAbove number n xs → AllAbove told n (map see xs)
  above_map_to n [] above = tt
  above_map_to n (x ∷ xs) above = (omega (arith, same x, above.0), above_map_to n xs above.1)

  pub place_map : (n : ℕ) (xs : List X) (i : ℕ) → IsPlaceOf number xs n i → IsPlaceOf told (map see xs) n i
  place_map n [] i place = absurd place
  place_map n (x ∷ xs) zero place = (same x ∙ place.0, above_map_to n xs place.1)
  place_map n (x ∷ xs) (suc i) place = (omega (arith, same x, place.0), place_map n xs i place.1)

  pub gap_map : (n : ℕ) (xs : List X) (i : ℕ) → IsGapFor number xs n i → IsGapFor told (map see xs) n i
  gap_map n xs zero gap = above_map_to n xs gap
  gap_map n [] (suc i) gap = absurd gap
  gap_map n (x ∷ xs) (suc i) gap = (omega (arith, same x, gap.0), gap_map n xs i gap.1)
