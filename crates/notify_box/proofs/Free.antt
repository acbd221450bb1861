-- What it says that nothing refuses an armed pulse or a parked read.
use Rattle.std.proofs.Common.{◌≡◌, ℕ, ◌-◌, ◌<◌, ◌≤◌, List, Bool, true, false, not, ◌==◌, if◌then◌else◌, Some, None, [], ◌∷◌, ◌||◌, nat_le, filter, find, arith, refl, ap}
use Rattle.std.specs.List.{list_any}
use Rattle.std.proofs.lemmas.Bool.Decides.{nat_tests}
use Rattle.pps_types.specs.Outbox.{Outbox, held, is_full, is_armed, is_parked, arm_refusal, park_refusal}
use Rattle.pps_types.specs.declared.refusal.Refusal.{Refusal}

not_refused : (b : Bool) (r : Refusal) → (if b then Some r else None) ≡ None → b ≡ false
not_refused true r free = cc
not_refused false r free = refl

not_full : (n : ℕ) → is_full n ≡ false → n < 1024
not_full n free = grind (arith, nat_tests)

-- where a pulse may be armed, there is a place for it
pub arm_free : (box : Outbox) (handle : ℕ) → arm_refusal box handle ≡ None → held box - (if is_armed box handle then 1 else 0) < 1024
arm_free box handle free = not_full _ (not_refused _ _ free)

-- what may be parked is not, and there is a place for it
pub record ParkFree (box : Outbox) (handle : ℕ) : Type 0 where
  pub absent : is_parked box handle ≡ false
  pub few : held box < 1024

park_cases : (parked : Bool) (n : ℕ) (p r : Refusal) → (if parked then Some p else (if is_full n then Some r else None)) ≡ None → (parked ≡ false) × (n < 1024)
park_cases true n p r free = cc
park_cases false n p r free = (refl, not_full n (not_refused (is_full n) r free))

pub park_free : (box : Outbox) (handle : ℕ) → park_refusal box handle ≡ None → ParkFree box handle
park_free box handle free = let cases = park_cases (is_parked box handle) (held box) _ _ free in record { absent = cases.0; few = cases.1 }

-- where the handle's own pulse gives way, none is too many
pub arm_again : (box : Outbox) (handle : ℕ) → is_armed box handle ≡ true → held box ≤ 1024 → arm_refusal box handle ≡ None
arm_again box handle own few = rw own (let few' : nat_le 1024 (held box - 1) ≡ false = grind (arith, nat_tests) in rw few' refl)

module _ {X : Type 0} (number : X → ℕ) where
  -- what no test finds, no filter takes out
  pub none_filtered : (n : ℕ) (xs : List X) → list_any (λ x. number x == n) xs ≡ false → filter (λ x. not (number x == n)) xs ≡ xs
  none_filtered n [] none = refl
  none_filtered n (x ∷ xs) none = filtered (number x == n) (λ h. none_filtered n xs h) none
    where
      filtered : (b : Bool) → (list_any (λ x. number x == n) xs ≡ false → filter (λ x. not (number x == n)) xs ≡ xs) → (b || list_any (λ x. number x == n) xs) ≡ false → (if not b then x ∷ filter (λ x. not (number x == n)) xs else filter (λ x. not (number x == n)) xs) ≡ x ∷ xs
      filtered true rest none = cc
      filtered false rest none = ap (λ ys. x ∷ ys) (rest none)

  -- what is found, some test finds
  pub found_any : (n : ℕ) (xs : List X) (e : X) → find (λ x. number x == n) xs ≡ Some e → list_any (λ x. number x == n) xs ≡ true
  found_any n [] e found = cc
  found_any n (x ∷ xs) e found = any (number x == n) (λ h. found_any n xs e h) found
    where
      any : (b : Bool) → (find (λ x. number x == n) xs ≡ Some e → list_any (λ x. number x == n) xs ≡ true) → (if b then Some x else find (λ x. number x == n) xs) ≡ Some e → (b || list_any (λ x. number x == n) xs) ≡ true
      any true rest found = refl
      any false rest found = rest found
