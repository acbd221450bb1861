-- What holds of all of a list holds of its parts.
use Rattle.std.proofs.Common.{ap}
use Rattle.std.specs.Prelude.{◌≡◌, ℕ, zero, suc, List, [], ◌∷◌, ◌++◌, Bool, true, false, cond, filter, refl}
use Rattle.std.specs.List.{AllByRecursion}
use Rattle.pps_types.specs.Rests.{from_first, past, pushed}
use Rattle.pps_types.proofs.Lists.{all-push}

module _ {X : Type 0} (P : X → Type 0) where
  pub all-append : (xs ys : List X) → AllByRecursion P xs → AllByRecursion P ys → AllByRecursion P (xs ++ ys)
  all-append [] ys a b = b
  all-append (x ∷ xs) ys a b = (a.0, all-append xs ys a.1 b)

  pub all-from_first : (test : X → Bool) (xs : List X) → AllByRecursion P xs → AllByRecursion P (from_first test xs)
  all-from_first test [] all = all
  all-from_first test (x ∷ xs) all = elim (test x) as (λ b. AllByRecursion P (cond b (x ∷ xs) (from_first test xs))) [ true ↦ all | false ↦ all-from_first test xs all.1 ]

  pub all-past : (test : X → Bool) (n : ℕ) (xs : List X) → AllByRecursion P xs → AllByRecursion P (past test n xs)
  all-past test zero xs all = all
  all-past test (suc n) [] all = all
  all-past test (suc n) (x ∷ xs) all = elim (test x) as (λ b. AllByRecursion P (cond b (past test n xs) (past test (suc n) xs))) [ true ↦ all-past test n xs all.1 | false ↦ all-past test (suc n) xs all.1 ]

  pub all-pushed : (test : X → Bool) (y : X) (xs : List X) → AllByRecursion P xs → P y → AllByRecursion P (pushed test y xs)
  all-pushed test y [] all p = elim (test y) as (λ b. AllByRecursion P (cond b (y ∷ []) [])) [ true ↦ (p, all) | false ↦ all ]
  all-pushed test y (x ∷ xs) all p = (all.0, all-push P xs y all.1 p)

pub filter-push : {X : Type 0} (test : X → Bool) (xs : List X) (y : X) → filter test (xs ++ y ∷ []) ≡ filter test xs ++ cond (test y) (y ∷ []) []
filter-push test [] y = elim (test y) as (λ b. cond b (y ∷ []) [] ≡ cond b (y ∷ []) []) [ true ↦ refl | false ↦ refl ]
filter-push test (x ∷ xs) y =
    elim (test x) as (λ b. cond b (x ∷ filter test (xs ++ y ∷ [])) (filter test (xs ++ y ∷ [])) ≡ cond b (x ∷ filter test xs) (filter test xs) ++ cond (test y) (y ∷ []) [])
    [ true ↦ ap (λ rest. x ∷ rest) (filter-push test xs y) | false ↦ filter-push test xs y ]
