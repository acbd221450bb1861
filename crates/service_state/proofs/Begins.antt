-- What an event begins with: that what the rest of it wants is still there.
use Rattle.std.specs.Prelude.{◌≡◌, ◌+◌, ◌-◌, ◌<◌, ◌≤◌, ◌⊎◌, ℕ, List, [], ◌∷◌, Bool, true, false, Option, Some, None, length, map, filter, IfSome}
use Rattle.std.proofs.Common.{refl, sym, ◌∙◌, ap, subst, cond, inl, inr, arith, le_refl, le_trans}
use Rattle.std.proofs.lemmas.List.{length-map}
use Rattle.pps_types.specs.declared.found.Found.{Found}
use Rattle.pps_types.specs.declared.found.Found.TheVariants.{Object as FoundObject, Directory as FoundDirectory}
use Rattle.pps_types.specs.History.{Entry}
use Rattle.pps_types.specs.Reading.{OpenHandle, visible}
use Rattle.pps_types.specs.Rests.{Progress}
use Rattle.pps_types.specs.Plan.{offer, without_first}
use Rattle.service_laws.proofs.Effects.{filter-map}
use Rattle.open_handles.specs.Whole.{Whole, Site, IsShared, is_on, handles_at, site_at}
use Rattle.service_state.specs.Tied.{KeepsOrDrops}

-- ---- shares

module _ {X : Type 0} (p q : X → Bool) where
  both : X → ℕ
  both x = cond (q x) (cond (p x) 1 0) 0

  -- one more in front is counted where it passes both
  count-cons : (x : X) (xs : List X) → length (filter p (filter q (x ∷ xs))) ≡ both x + length (filter p (filter q xs))
  unfolding both
  count-cons x xs = by (q x)
    where
      inner : (d : Bool) (ys : List X) → length (cond d (x ∷ ys) ys) ≡ cond d 1 0 + length ys
      inner true ys = omega arith
      inner false ys = omega arith

      by : (c : Bool) → length (filter p (cond c (x ∷ filter q xs) (filter q xs))) ≡ cond c (cond (p x) 1 0) 0 + length (filter p (filter q xs))
      by true = inner (p x) (filter p (filter q xs))
      by false = omega arith

  -- one taken out leaves no more that pass
  pub fewer-without : (t : X → Bool) (xs : List X) → length (filter p (filter q (without_first t xs))) ≤ length (filter p (filter q xs))
  fewer-without t [] = le_refl 0
  fewer-without t (x ∷ xs) = by (t x) (fewer-without t xs)
    where
      by : (b : Bool) → length (filter p (filter q (without_first t xs))) ≤ length (filter p (filter q xs))
          → length (filter p (filter q (cond b xs (x ∷ without_first t xs)))) ≤ length (filter p (filter q (x ∷ xs)))
      by true rest = omega (arith, count-cons x xs)
      by false rest = omega (arith, count-cons x xs, count-cons x (without_first t xs))

-- one taken out leaves no more
pub fewer-left : {X : Type 0} (q t : X → Bool) (xs : List X) → length (filter q (without_first t xs)) ≤ length (filter q xs)
fewer-left q t [] = le_refl 0
fewer-left q t (x ∷ xs) = by (t x) (fewer-left q t xs)
  where
    longer : (a : Bool) → length (filter q xs) ≤ length (cond a (x ∷ filter q xs) (filter q xs))
    longer true = omega arith
    longer false = omega arith

    both_longer : (a : Bool) → length (filter q (without_first t xs)) ≤ length (filter q xs) → length (cond a (x ∷ filter q (without_first t xs)) (filter q (without_first t xs))) ≤ length (cond a (x ∷ filter q xs) (filter q xs))
    both_longer true rest = omega arith
    both_longer false rest = rest

    by : (b : Bool) → length (filter q (without_first t xs)) ≤ length (filter q xs) → length (filter q (cond b xs (x ∷ without_first t xs))) ≤ length (filter q (x ∷ xs))
    by true rest = longer (q x)
    by false rest = both_longer (q x) rest

-- a record that is offered leaves as many
pub same-left : (other : Entry) (f : Found) (hs : List (OpenHandle Progress)) → length (filter (is_on f) (map (offer other) hs)) ≡ length (filter (is_on f) hs)
same-left other f hs = ap length (filter-map (is_on f) (offer other) (on f) hs) ∙ length-map (filter (is_on f) hs) (offer other)
  where
    on : (f : Found) (h : OpenHandle Progress) → is_on f (offer other h) ≡ is_on f h
    on (FoundObject n) h = refl
    on (FoundDirectory n) h = refl

-- a record that is offered leaves the handles that see another as many
pub same-offered : (e other : Entry) (f : Found) (hs : List (OpenHandle Progress)) → length (filter (λ (h : OpenHandle Progress). visible h e) (filter (is_on f) (map (offer other) hs))) ≡ length (filter (λ (h : OpenHandle Progress). visible h e) (filter (is_on f) hs))
same-offered e other f hs =
    ap (λ xs. length (filter (λ (h : OpenHandle Progress). visible h e) xs)) (filter-map (is_on f) (offer other) (on f) hs)
    ∙ ap length (filter-map (λ (h : OpenHandle Progress). visible h e) (offer other) (λ h. refl) (filter (is_on f) hs))
    ∙ length-map (filter (λ (h : OpenHandle Progress). visible h e) (filter (is_on f) hs)) (offer other)
  where
    on : (f : Found) (h : OpenHandle Progress) → is_on f (offer other h) ≡ is_on f h
    on (FoundObject n) h = refl
    on (FoundDirectory n) h = refl

-- shares are enough for the handles of a place, where there is one
abbrev Enough : ℕ → Entry → Whole → Option Site → Type 0
Enough count e w o = IfSome o (λ s. s.service ≡ true → length (filter (λ (h : OpenHandle Progress). visible h e) (handles_at (FoundObject e.record_of.object) w)) ≤ count)

-- shares that were enough are enough, where no more handles are there, and no more see their record
pub shared_stays : (count : ℕ) (e : Entry) (old new : Whole) → KeepsOrDrops old new
    → ((f : Found) → length (handles_at f new) ≤ length (handles_at f old))
    → ((f : Found) → length (filter (λ (h : OpenHandle Progress). visible h e) (handles_at f new)) ≤ length (filter (λ (h : OpenHandle Progress). visible h e) (handles_at f old)))
    → IsShared count e old → IsShared count e new
shared_stays count e old new sites fewer fewer_seers shared = record {
  directory = λ some. shared.directory (let le = fewer (FoundDirectory e.directory) in omega arith);
  object = by (site_at (FoundObject e.record_of.object) new) (site_at (FoundObject e.record_of.object) old) (sites (FoundObject e.record_of.object)) shared.object;
}
  where
    weaken : (o : Option Site) → Enough (count - 1) e old o → Enough (count - 1) e new o
    weaken None s = tt
    weaken (Some s) enough = λ service. le_trans (fewer_seers (FoundObject e.record_of.object)) (enough service)

    by : (n o : Option Site) → (n ≡ o) ⊎ (n ≡ None) → Enough (count - 1) e old o → Enough (count - 1) e new n
    by n o (inl same) enough = subst (Enough (count - 1) e new) (sym same) (weaken o enough)
    by n o (inr gone) enough = subst (Enough (count - 1) e new) (sym gone) tt
