-- Counts and handles, as the definitions ask for them.
use Rattle.std.specs.Prelude.{◌≡◌, ◌≢◌, ◌↔◌, ◌&&◌, ◌==◌, ℕ, Bool, true, false, not, IsTrue, List, [], ◌∷◌, Option, Some, None, is_some, find, filter, length, option_map}
use Rattle.std.specs.Option.{option_map_or}
use Rattle.std.proofs.Common.{refl, sym, ◌∙◌, ap, cond, eqb, eqb-true, eq-eqb}
use Rattle.pps_types.specs.Reading.{OpenHandle, is_directory_kind}
use Rattle.pps_types.specs.Rests.{Progress}
use Rattle.pps_types.specs.Content.{Content, Directory, members}
use Rattle.service_laws.specs.Concerned.{is_on_object}

eqb-sym : (a b : ℕ) → eqb a b ≡ eqb b a
eqb-sym a b = by (eqb a b) refl (eqb b a) refl
  where
    by : (x : Bool) → eqb a b ≡ x → (y : Bool) → eqb b a ≡ y → x ≡ y
    by true e true f = refl
    by false e false f = refl
    by true e false f = sym (eq-eqb b a (sym (eqb-true a b e))) ∙ f
    by false e true f = sym e ∙ eq-eqb a b (sym (eqb-true b a f))

module _ {X : Type 0} (p q : X → Bool) (same : (x : X) → p x ≡ q x) where
  found-none : (xs : List X) → filter q xs ≡ [] → find p xs ≡ None
  found-none [] e = refl
  found-none (x ∷ xs) e = by (q x) refl e (found-none xs)
    where
      by : (b : Bool) → q x ≡ b → cond b (x ∷ filter q xs) (filter q xs) ≡ [] → (filter q xs ≡ [] → find p xs ≡ None) → cond (p x) (Some x) (find p xs) ≡ None
      by true f e rest = absurd (let no = e in cc)
      by false f e rest = rw (same x, f) (rest e)

  found-some : (xs : List X) → (filter q xs ≡ [] → ⊥) → is_some (find p xs) ≡ true
  found-some [] some = absurd (some refl)
  found-some (x ∷ xs) some = by (q x) refl some (found-some xs)
    where
      by : (b : Bool) → q x ≡ b → (cond b (x ∷ filter q xs) (filter q xs) ≡ [] → ⊥) → ((filter q xs ≡ [] → ⊥) → is_some (find p xs) ≡ true) → is_some (cond (p x) (Some x) (find p xs)) ≡ true
      by true f some rest = rw (same x, f) refl
      by false f some rest = rw (same x, f) (rest some)

  pub found-told : (xs : List X) (b : Bool) → IsTrue b ↔ (filter q xs ≢ []) → b ≡ is_some (find p xs)
  found-told xs true told = sym (found-some xs (told.0 refl))
  found-told xs false told = by (filter q xs) refl
    where
      by : (ys : List X) → filter q xs ≡ ys → false ≡ is_some (find p xs)
      by [] e = sym (ap is_some (found-none xs e))
      by (y ∷ ys) e = absurd (let yes = told.1 (λ none. let no = sym e ∙ none in cc) in cc)

-- a handle is on the object
pub handles_told : (n : ℕ) (hs : List (OpenHandle Progress)) (b : Bool) → IsTrue b ↔ (filter (is_on_object n) hs ≢ []) → b ≡ is_some (find (λ (h : OpenHandle Progress). not (is_directory_kind h.kind) && (h.target == n)) hs)
handles_told n hs b told = found-told (λ (h : OpenHandle Progress). not (is_directory_kind h.kind) && (h.target == n)) (is_on_object n) (λ h. ap (λ b. not (is_directory_kind h.kind) && b) (eqb-sym h.target n)) hs b told

-- the objects beside a path
pub beside_told : (c : Content) (d : Option Directory) → length (option_map_or (λ (d : Directory). members c d.number) d []) ≡ option_map_or (λ n. length (members c n)) (option_map (λ (d : Directory). d.number) d) 0
beside_told c None = refl
beside_told c (Some d) = refl
