-- Handles that rise, and the last of them.
use Rattle.std.proofs.Common.{◌≡◌, ℕ, zero, suc, ◌+◌, ◌-◌, ◌<◌, ◌≤◌, List, [], ◌∷◌, Some, length, drop, refl, ap, ◌∙◌, subst, arith}
use Rattle.std.specs.List.{AllByRecursion, remove, slice_get}
use Rattle.pps_types.specs.Rising.{AllAbove, IsRising}

some_is : (x y : ℕ) → Some x ≡ Some y → x ≡ y
some_is x y same = cc

above_got : (m n k : ℕ) (hs : List ℕ) → AllAbove (λ (h : ℕ). h) m hs → slice_get hs k ≡ Some n → m < n
above_got m n k [] above got = cc
above_got m n zero (h ∷ hs) above got = subst (λ x. m < x) (some_is h n got) above.0
above_got m n (suc k) (h ∷ hs) above got = above_got m n k hs above.1 got

-- what is below the last is below no other
below_at : (n l k : ℕ) (hs : List ℕ) → IsRising (λ (h : ℕ). h) hs → length hs ≤ k + 1 → slice_get hs k ≡ Some l → l < n → AllByRecursion (λ h. h < n) hs
below_at n l k [] rising last got below = tt
below_at n l zero (h ∷ []) rising last got below = (subst (λ x. x < n) (sym_is got) below, tt)
  where
    sym_is : Some h ≡ Some l → l ≡ h
    sym_is same = cc
below_at n l zero (h ∷ g ∷ hs) rising last got below = absurd (omega arith)
below_at n l (suc k) (h ∷ hs) rising last got below =
    let lower = above_got h l k hs rising.0 got in
    (omega arith, below_at n l k hs rising.1 (omega arith) got below)

-- above the last is above all
pub last_below : (n l : ℕ) (hs : List ℕ) → IsRising (λ (h : ℕ). h) hs → slice_get hs (length hs - 1) ≡ Some l → l < n → AllByRecursion (λ h. h < n) hs
last_below n l hs rising got below = below_at n l (length hs - 1) hs rising (omega arith) got below

-- above all is above each
pub below_got : (n l k : ℕ) (hs : List ℕ) → AllByRecursion (λ h. h < n) hs → slice_get hs k ≡ Some l → l < n
below_got n l k [] below got = cc
below_got n l zero (h ∷ hs) below got = subst (λ x. x < n) (some_is h l got) below.0
below_got n l (suc k) (h ∷ hs) below got = below_got n l k hs below.1 got

-- ---- what is left behind the places of closed handles

-- where the first closes
pub first_removed : {X : Type 0} (n : ℕ) (xs : List X) → drop (suc n) xs ≡ remove (drop n xs) 0
first_removed zero [] = refl
first_removed zero (x ∷ xs) = refl
first_removed (suc n) [] = refl
first_removed (suc n) (x ∷ xs) = first_removed n xs

-- where another one closes
pub later_removed : {X : Type 0} (n i : ℕ) (xs : List X) → drop n (remove xs (n + i)) ≡ remove (drop n xs) i
later_removed zero i xs = let none : 0 + i ≡ i = omega arith in ap (remove xs) none
later_removed (suc n) zero [] = let next : suc n + 0 ≡ suc n = omega arith in ap (λ k. drop (suc n) (remove [] k)) next
later_removed (suc n) (suc i) [] = let next : suc n + suc i ≡ suc (n + suc i) = omega arith in ap (λ k. drop (suc n) (remove [] k)) next
later_removed (suc n) i (x ∷ xs) =
    let next : suc n + i ≡ suc (n + i) = omega arith in
    ap (λ k. drop (suc n) (remove (x ∷ xs) k)) next ∙ later_removed n i xs
