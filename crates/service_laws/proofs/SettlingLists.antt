-- Lists that are mapped, filtered and joined.
use Rattle.std.proofs.Common.{◌≡◌, ℕ, ◌+◌, ◌≤◌, ◌<◌, Bool, true, false, cond, List, [], ◌∷◌, ◌++◌, map, Option, Some, None, refl, ap, ◌∙◌, arith}
use Rattle.std.specs.Prelude.{filter}
use Rattle.std.specs.Option.{option_map_or}
use Rattle.std.specs.List.{filter_map, flat_map, cons_option, AllByRecursion}
use Rattle.pps_types.specs.WellFormed.{RiseBetween}
use Rattle.pps_types.proofs.Lists.{all-weaken}
use Rattle.service_laws.proofs.Rising.{rising-above}

module _ {X : Type 0} where
  pub flat_map-same : {Y : Type 0} (f g : X → List Y) (xs : List X) → AllByRecursion (λ x. f x ≡ g x) xs → flat_map f xs ≡ flat_map g xs
  flat_map-same f g [] all = refl
  flat_map-same f g (x ∷ xs) all = λ i. all.0 i ++ flat_map-same f g xs all.1 i

  -- those that give nothing play no part
  pub flat_map-filter : {Y : Type 0} (f : X → List Y) (test : X → Bool) (xs : List X) → AllByRecursion (λ x. test x ≡ false → f x ≡ []) xs → flat_map f xs ≡ flat_map f (filter test xs)
  flat_map-filter f test [] all = refl
  flat_map-filter {Y = Y} f test (x ∷ xs) all = by (test x) refl (flat_map-filter f test xs all.1)
    where
      by : (b : Bool) → test x ≡ b → flat_map f xs ≡ flat_map f (filter test xs) → f x ++ flat_map f xs ≡ flat_map f (cond b (x ∷ filter test xs) (filter test xs))
      by true e rest = ap (λ ys. f x ++ ys) rest
      by false e rest = ap (λ ys. ys ++ flat_map f xs) (all.0 e) ∙ rest

  pub flat_map-none : {Y : Type 0} (f : X → List Y) (xs : List X) → AllByRecursion (λ x. f x ≡ []) xs → flat_map f xs ≡ []
  flat_map-none f [] all = refl
  flat_map-none f (x ∷ xs) all = ap (λ ys. ys ++ flat_map f xs) all.0 ∙ flat_map-none f xs all.1

  pub flat_map-filter_map : {Y Z : Type 0} (f : Y → List Z) (g : X → Option Y) (xs : List X) → flat_map f (filter_map g xs) ≡ flat_map (λ x. option_map_or f (g x) []) xs
  flat_map-filter_map f g [] = refl
  flat_map-filter_map {Y = Y} {Z = Z} f g (x ∷ xs) = by (g x) (flat_map-filter_map f g xs)
    where
      by : (o : Option Y) → flat_map f (filter_map g xs) ≡ flat_map (λ x. option_map_or f (g x) []) xs → flat_map f (cons_option o (filter_map g xs)) ≡ option_map_or f o [] ++ flat_map (λ x. option_map_or f (g x) []) xs
      by None rest = rest
      by (Some y) rest = ap (λ zs. f y ++ zs) rest

  -- those that pass, do
  pub all-passing : (P : X → Type 0) (test : X → Bool) (xs : List X) → AllByRecursion P xs → AllByRecursion (λ x. (test x ≡ true) × P x) (filter test xs)
  all-passing P test [] all = tt
  all-passing P test (x ∷ xs) all = by (test x) refl (all-passing P test xs all.1)
    where
      by : (b : Bool) → test x ≡ b → AllByRecursion (λ x. (test x ≡ true) × P x) (filter test xs) → AllByRecursion (λ x. (test x ≡ true) × P x) (cond b (x ∷ filter test xs) (filter test xs))
      by true e rest = ((e, all.0), rest)
      by false e rest = rest

  pub filter_map-all : (f : X → Option X) (xs : List X) → AllByRecursion (λ x. f x ≡ Some x) xs → filter_map f xs ≡ xs
  filter_map-all f [] all = refl
  filter_map-all f (x ∷ xs) all = ap (λ o. cons_option o (filter_map f xs)) all.0 ∙ ap (λ ys. x ∷ ys) (filter_map-all f xs all.1)

  pub filter_map-map : (f : X → X) (xs : List X) → map f xs ≡ filter_map (λ x. Some (f x)) xs
  filter_map-map f [] = refl
  filter_map-map f (x ∷ xs) = ap (λ ys. f x ∷ ys) (filter_map-map f xs)

  pub filter-same : (p q : X → Bool) (xs : List X) → AllByRecursion (λ x. p x ≡ q x) xs → filter p xs ≡ filter q xs
  filter-same p q [] all = refl
  filter-same p q (x ∷ xs) all = λ i. cond (all.0 i) (x ∷ filter-same p q xs all.1 i) (filter-same p q xs all.1 i)

  -- behind the first all numbers are higher
  pub rising-behind : (number : X → ℕ) (n high : ℕ) (xs : List X) → RiseBetween (n + 1) (map number xs) high → AllByRecursion (λ x. n < number x) xs
  rising-behind number n high xs r = all-weaken {P = λ x. n + 1 ≤ number x} {Q = λ x. n < number x} (λ x le. omega (arith, le)) xs (rising-above number (n + 1) high xs r)
