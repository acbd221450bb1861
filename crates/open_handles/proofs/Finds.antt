-- Handles, and what stands under numbers, found by their numbers.
use Rattle.std.proofs.Common.{◌≡◌, ◌<◌, ◌≤◌, ℕ, ◌+◌, Bool, true, false, cond, eqb, eqb-true, eq-eqb, ne_eqb, List, [], ◌∷◌, map, length, Result, Ok, Err, OnOk, Some, None, refl, sym, ap, ◌∙◌, arith, ◌⊎◌, inl, inr}
use Rattle.std.specs.Prelude.{option_map}
use Rattle.std.specs.List.{AllByRecursion}
use Rattle.pps_types.specs.declared.found.Found.{Found}
use Rattle.pps_types.specs.declared.found.Found.TheVariants.{Object as FoundObject, Directory as FoundDirectory}
use Rattle.pps_types.specs.Reading.{OpenHandle}
use Rattle.pps_types.specs.Rests.{Progress}
use Rattle.pps_types.specs.Plan.{on_numbered, without_number}
use Rattle.pps_types.specs.WellFormed.{RiseBetween}
use Rattle.service_laws.proofs.Finds.{find-true}
use Rattle.pps_types.specs.Rising.{AllAbove, IsRising}
use Rattle.sub_reader.specs.Opened.{handle_at}

-- ---- two of them are the same, or not

pub some_is : {X : Type 0} (x y : X) → Some x ≡ Some y → x ≡ y
some_is x y h = cc

pub differ : (m n : ℕ) → eqb m n ≡ false → m ≡ n → ⊥
differ m n other is = let same = eq-eqb m n is in cc

number_cases : {X : Type 0} (see : ℕ → X) → ((m n : ℕ) → see m ≡ see n → m ≡ n) → (m n : ℕ) → (see m ≡ see n) ⊎ (see m ≡ see n → ⊥)
number_cases see into m n = by (eqb m n) refl
  where
    by : (b : Bool) → eqb m n ≡ b → (see m ≡ see n) ⊎ (see m ≡ see n → ⊥)
    by true is = inl (ap see (eqb-true m n is))
    by false is = inr (λ same. differ m n is (into m n same))

pub found_cases : (g f : Found) → (g ≡ f) ⊎ (g ≡ f → ⊥)
found_cases (FoundObject m) (FoundObject n) = number_cases FoundObject (λ m n e. cc) m n
found_cases (FoundObject m) (FoundDirectory n) = inr (λ e. cc)
found_cases (FoundDirectory m) (FoundObject n) = inr (λ e. cc)
found_cases (FoundDirectory m) (FoundDirectory n) = number_cases FoundDirectory (λ m n e. cc) m n

-- ---- a handle that is found

pub at_number : (n : ℕ) (hs : List (OpenHandle Progress)) (h : OpenHandle Progress) → handle_at n hs ≡ Some h → h.number ≡ n
at_number n hs h found = eqb-true h.number n (find-true (λ h. eqb h.number n) hs h found)

pub at_map : (c : OpenHandle Progress → OpenHandle Progress) → ((h : OpenHandle Progress) → (c h).number ≡ h.number) → (n : ℕ) (hs : List (OpenHandle Progress)) → handle_at n (map c hs) ≡ option_map c (handle_at n hs)
at_map c same n [] = refl
at_map c same n (h ∷ hs) = ap (λ m. cond (eqb m n) (Some (c h)) (handle_at n (map c hs))) (same h) ∙ by (eqb h.number n) (at_map c same n hs)
  where
    by : (b : Bool) → handle_at n (map c hs) ≡ option_map c (handle_at n hs) → cond b (Some (c h)) (handle_at n (map c hs)) ≡ option_map c (cond b (Some h) (handle_at n hs))
    by true e = refl
    by false e = e

pub all_map : {X : Type 0} (P Q : X → Type 0) (c : X → X) → ((x : X) → P x → Q (c x)) → (xs : List X) → AllByRecursion P xs → AllByRecursion Q (map c xs)
all_map P Q c into [] all = tt
all_map P Q c into (x ∷ xs) all = (into x all.0, all_map P Q c into xs all.1)

-- ---- no handle of a number

abbrev pub NoneNumbered : ℕ → List (OpenHandle Progress) → Type 0
NoneNumbered n hs = AllByRecursion (λ h. eqb h.number n ≡ false) hs

pub none_found : (n : ℕ) (hs : List (OpenHandle Progress)) → handle_at n hs ≡ None → NoneNumbered n hs
none_found n [] none = tt
none_found n (h ∷ hs) none = by (eqb h.number n) refl none (none_found n hs)
  where
    by : (b : Bool) → eqb h.number n ≡ b → cond b (Some h) (handle_at n hs) ≡ None → (handle_at n hs ≡ None → NoneNumbered n hs) → NoneNumbered n (h ∷ hs)
    by true is none rest = absurd (let bad = none in cc)
    by false is none rest = (is, rest none)

pub none_at : (n : ℕ) (hs : List (OpenHandle Progress)) → NoneNumbered n hs → handle_at n hs ≡ None
none_at n [] none = refl
none_at n (h ∷ hs) none = ap (λ b. cond b (Some h) (handle_at n hs)) none.0 ∙ none_at n hs none.1

pub change_none : (n : ℕ) (change : OpenHandle Progress → OpenHandle Progress) (hs : List (OpenHandle Progress)) → NoneNumbered n hs → on_numbered n change hs ≡ hs
change_none n change [] none = refl
change_none n change (h ∷ hs) none = ap (λ b. cond b (change h ∷ hs) (h ∷ on_numbered n change hs)) none.0 ∙ ap (λ xs. h ∷ xs) (change_none n change hs none.1)

pub without_none : (n : ℕ) (hs : List (OpenHandle Progress)) → NoneNumbered n hs → without_number n hs ≡ hs
without_none n [] none = refl
without_none n (h ∷ hs) none = ap (λ b. cond b hs (h ∷ without_number n hs)) none.0 ∙ ap (λ xs. h ∷ xs) (without_none n hs none.1)

-- ---- numbers that rise

pub none_above : (m n : ℕ) (hs : List (OpenHandle Progress)) → n ≤ m → AllAbove (λ h. h.number) m hs → NoneNumbered n hs
none_above m n [] le above = tt
none_above m n (h ∷ hs) le above = (ne_eqb h.number n (λ same. let lt = above.0 in absurd (omega arith)), none_above m n hs le above.1)

above_of : (n low high : ℕ) (hs : List (OpenHandle Progress)) → n < low → RiseBetween low (map (λ h. h.number) hs) high → AllAbove (λ h. h.number) n hs
above_of n low high [] lt r = tt
above_of n low high (h ∷ hs) lt r = (let le = r.0 in omega arith, above_of n (h.number + 1) high hs (let le = r.0 in omega arith) r.1)

pub is_rising : (low high : ℕ) (hs : List (OpenHandle Progress)) → RiseBetween low (map (λ h. h.number) hs) high → IsRising (λ h. h.number) hs
is_rising low high [] r = tt
is_rising low high (h ∷ hs) r = (above_of h.number (h.number + 1) high hs (omega arith) r.1, is_rising (h.number + 1) high hs r.1)

-- ---- the handle of a number changes

abbrev pub where_numbered : ℕ → (OpenHandle Progress → OpenHandle Progress) → OpenHandle Progress → OpenHandle Progress
where_numbered n change h = cond (eqb h.number n) (change h) h

pub same_number : (n : ℕ) (change : OpenHandle Progress → OpenHandle Progress) → ((h : OpenHandle Progress) → (change h).number ≡ h.number) → (h : OpenHandle Progress) → (where_numbered n change h).number ≡ h.number
same_number n change same h = elim (eqb h.number n) as (λ b. (cond b (change h) h).number ≡ h.number) [ true ↦ same h | false ↦ refl ]

pub unchanged : (n : ℕ) (change : OpenHandle Progress → OpenHandle Progress) (hs : List (OpenHandle Progress)) → NoneNumbered n hs → map (where_numbered n change) hs ≡ hs
unchanged n change [] none = refl
unchanged n change (h ∷ hs) none = λ i. cond (none.0 i) (change h) h ∷ unchanged n change hs none.1 i

pub changed_map : (n : ℕ) (change : OpenHandle Progress → OpenHandle Progress) (hs : List (OpenHandle Progress)) → IsRising (λ h. h.number) hs → on_numbered n change hs ≡ map (where_numbered n change) hs
changed_map n change [] rising = refl
changed_map n change (h ∷ hs) rising = by (eqb h.number n) refl (changed_map n change hs rising.1)
  where
    by : (b : Bool) → eqb h.number n ≡ b → on_numbered n change hs ≡ map (where_numbered n change) hs → cond b (change h ∷ hs) (h ∷ on_numbered n change hs) ≡ cond b (change h) h ∷ map (where_numbered n change) hs
    by true is rest = ap (λ xs. change h ∷ xs) (sym (unchanged n change hs (none_above h.number n hs (let same = eqb-true h.number n is in omega arith) rising.0)))
    by false is rest = ap (λ xs. h ∷ xs) rest

-- ---- the handle of a number leaves

pub at_without : (m n : ℕ) (hs : List (OpenHandle Progress)) → (m ≡ n → ⊥) → handle_at m (without_number n hs) ≡ handle_at m hs
at_without m n [] other = refl
at_without m n (h ∷ hs) other = by (eqb h.number n) refl (at_without m n hs other)
  where
    by : (b : Bool) → eqb h.number n ≡ b → handle_at m (without_number n hs) ≡ handle_at m hs → handle_at m (cond b hs (h ∷ without_number n hs)) ≡ cond (eqb h.number m) (Some h) (handle_at m hs)
    by true is rest = sym (ap (λ b. cond b (Some h) (handle_at m hs)) (ne_eqb h.number m (λ same. other (sym same ∙ eqb-true h.number n is))))
    by false is rest = ap (λ o. cond (eqb h.number m) (Some h) o) rest

pub all_without : (P : OpenHandle Progress → Type 0) (n : ℕ) (hs : List (OpenHandle Progress)) → AllByRecursion P hs → AllByRecursion P (without_number n hs)
all_without P n [] all = tt
all_without P n (h ∷ hs) all = elim (eqb h.number n) as (λ b. AllByRecursion P (cond b hs (h ∷ without_number n hs))) [ true ↦ all.1 | false ↦ (all.0, all_without P n hs all.1) ]

pub none_without : (n : ℕ) (hs : List (OpenHandle Progress)) → IsRising (λ h. h.number) hs → NoneNumbered n (without_number n hs)
none_without n [] rising = tt
none_without n (h ∷ hs) rising = by (eqb h.number n) refl (none_without n hs rising.1)
  where
    by : (b : Bool) → eqb h.number n ≡ b → NoneNumbered n (without_number n hs) → NoneNumbered n (cond b hs (h ∷ without_number n hs))
    by true is rest = none_above h.number n hs (let same = eqb-true h.number n is in omega arith) rising.0
    by false is rest = (is, rest)

pub without_some : (n : ℕ) (hs : List (OpenHandle Progress)) → 0 < length (without_number n hs) → 0 < length hs
without_some n [] lt = lt
without_some n (h ∷ hs) lt = omega arith

pub on_ok : {T E : Type 0} (r : Result T E) (A : Type 0) → A → OnOk r A
on_ok (Ok x) A a = a
on_ok (Err e) A a = tt

pub on_ok_then : {T E : Type 0} (r : Result T E) (A B : Type 0) → (A → B) → OnOk r A → OnOk r B
on_ok_then (Ok x) A B then a = then a
on_ok_then (Err e) A B then a = tt
