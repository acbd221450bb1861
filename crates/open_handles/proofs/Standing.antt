-- What stands in places, where one is another, one comes and one goes.
use Rattle.std.proofs.Common.{◌≡◌, ℕ, Bool, true, false, cond, eqb, eqb-true, ne_eqb, List, [], ◌∷◌, map, Some, refl, sym, ap, ◌∙◌, subst, ◌⊎◌, inl, inr}
use Rattle.std.specs.Prelude.{find, option_map}
use Rattle.pps_types.specs.declared.found.Found.{Found}
use Rattle.pps_types.specs.declared.found.Found.TheVariants.{Object as FoundObject, Directory as FoundDirectory}
use Rattle.pps_types.specs.WellFormed.{RiseBetween}
use Rattle.number_table.specs.Numbered.{Entry as Numbering, has_number, on_first, value_under}
use Rattle.sub_reader.specs.Opened.{is_directory, number_of}
use Rattle.sub_reader.specs.HandlesOf.{AreOn}
use Rattle.topics.specs.declared.topic.Topic.{Topic}
use Rattle.topics.specs.HandlesOf.{target_of, handles_of}
use Rattle.open_handles.specs.declared.places.Places.{Places}
use Rattle.open_handles.specs.Whole.{place_at, with_place, handles_on, handles_in_place, ArePlaced, HoldsWhatIsOwed, IsRight}
use Rattle.open_handles.proofs.Finds.{some_is, found_cases}

module _ {T : Type 0} where
  abbrev told : Numbering T → T
  told e = e.value

  -- ---- a value under a number is another

  pub set_found : (n : ℕ) (w x : T) (es : List (Numbering T)) → value_under n es ≡ Some x → value_under n (on_first (has_number n) (λ e. record e { value = w }) es) ≡ Some w
  set_found n w x [] found = absurd (let bad = found in cc)
  set_found n w x (e ∷ es) found = by (eqb e.number n) refl (λ h. set_found n w x es h) found
    where
      by : (b : Bool) → eqb e.number n ≡ b → (value_under n es ≡ Some x → value_under n (on_first (has_number n) (λ e. record e { value = w }) es) ≡ Some w)
          → option_map told (cond b (Some e) (find (has_number n) es)) ≡ Some x
          → value_under n (cond b (record { number = e.number; value = w } ∷ es) (e ∷ on_first (has_number n) (λ e. record e { value = w }) es)) ≡ Some w
      by true is rest found = ap (λ b. option_map told (cond b (Some (record { number = e.number; value = w })) (find (has_number n) es))) is
      by false is rest found = ap (λ b. option_map told (cond b (Some e) (find (has_number n) (on_first (has_number n) (λ e. record e { value = w }) es)))) is ∙ rest found

  pub set_other : (m n : ℕ) (w : T) (es : List (Numbering T)) → (m ≡ n → ⊥) → value_under m (on_first (has_number n) (λ e. record e { value = w }) es) ≡ value_under m es
  set_other m n w [] other = refl
  set_other m n w (e ∷ es) other = by (eqb e.number n) refl (set_other m n w es other)
    where
      here : e.number ≡ n → (es : List (Numbering T)) (x : T) → value_under m (record { number = e.number; value = x } ∷ es) ≡ value_under m es
      here is es x = ap (λ b. option_map told (cond b (Some (record { number = e.number; value = x })) (find (has_number m) es))) (ne_eqb e.number m (λ same. other (sym same ∙ is)))

      by : (b : Bool) → eqb e.number n ≡ b → value_under m (on_first (has_number n) (λ e. record e { value = w }) es) ≡ value_under m es
          → value_under m (cond b (record { number = e.number; value = w } ∷ es) (e ∷ on_first (has_number n) (λ e. record e { value = w }) es)) ≡ value_under m (e ∷ es)
      by true is rest = here (eqb-true e.number n is) es w ∙ sym (here (eqb-true e.number n is) es e.value)
      by false is rest = go (eqb e.number m)
        where
          go : (b : Bool) → option_map told (cond b (Some e) (find (has_number m) (on_first (has_number n) (λ e. record e { value = w }) es))) ≡ option_map told (cond b (Some e) (find (has_number m) es))
          go true = refl
          go false = rest

  pub set_numbers : (n : ℕ) (w : T) (es : List (Numbering T)) → map (λ (e : Numbering T). e.number) (on_first (has_number n) (λ e. record e { value = w }) es) ≡ map (λ (e : Numbering T). e.number) es
  set_numbers n w [] = refl
  set_numbers n w (e ∷ es) =
      elim (eqb e.number n) as (λ b. map (λ (e : Numbering T). e.number) (cond b (record { number = e.number; value = w } ∷ es) (e ∷ on_first (has_number n) (λ e. record e { value = w }) es)) ≡ e.number ∷ map (λ (e : Numbering T). e.number) es)
      [ true ↦ refl | false ↦ ap (λ ns. e.number ∷ ns) (set_numbers n w es) ]

-- ---- the same of places

pub with_found : (p : Places) (f : Found) (s t : Topic) → place_at f p ≡ Some s → place_at f (with_place p f t) ≡ Some t
with_found p (FoundObject n) s t found = set_found n t s p.objects.entries found
with_found p (FoundDirectory n) s t found = set_found n t s p.directories.entries found

pub with_other : (p : Places) (g f : Found) (t : Topic) → (g ≡ f → ⊥) → place_at g (with_place p f t) ≡ place_at g p
with_other p (FoundObject m) (FoundObject n) t other = set_other m n t p.objects.entries (λ same. other (ap FoundObject same))
with_other p (FoundObject m) (FoundDirectory n) t other = refl
with_other p (FoundDirectory m) (FoundObject n) t other = refl
with_other p (FoundDirectory m) (FoundDirectory n) t other = set_other m n t p.directories.entries (λ same. other (ap FoundDirectory same))

with_objects_rise : (p : Places) (f : Found) (t : Topic) → RiseBetween 0 (map (λ (e : Numbering Topic). e.number) p.objects.entries) p.objects.next → RiseBetween 0 (map (λ (e : Numbering Topic). e.number) (with_place p f t).objects.entries) (with_place p f t).objects.next
with_objects_rise p (FoundObject n) t r = subst (λ ns. RiseBetween 0 ns p.objects.next) (sym (set_numbers n t p.objects.entries)) r
with_objects_rise p (FoundDirectory n) t r = r

with_directories_rise : (p : Places) (f : Found) (t : Topic) → RiseBetween 0 (map (λ (e : Numbering Topic). e.number) p.directories.entries) p.directories.next → RiseBetween 0 (map (λ (e : Numbering Topic). e.number) (with_place p f t).directories.entries) (with_place p f t).directories.next
with_directories_rise p (FoundObject n) t r = r
with_directories_rise p (FoundDirectory n) t r = subst (λ ns. RiseBetween 0 ns p.directories.next) (sym (set_numbers n t p.directories.entries)) r

module _ (p : Places) (f : Found) (s t : Topic) (placed : ArePlaced p) (found : place_at f p ≡ Some s) (target : target_of t ≡ target_of s) where
  pub with_on : target_of t ≡ f
  with_on = target ∙ placed.on f s found

  pub with_placed : HoldsWhatIsOwed t → ArePlaced (with_place p f t)
  with_placed exact = record {
    objects_rise = with_objects_rise p f t placed.objects_rise;
    directories_rise = with_directories_rise p f t placed.directories_rise;
    on = λ g u at. by g u at (found_cases g f);
    exact = λ g u at. held g u at (found_cases g f);
  }
    where
      held : (g : Found) (u : Topic) → place_at g (with_place p f t) ≡ Some u → (g ≡ f) ⊎ (g ≡ f → ⊥) → HoldsWhatIsOwed u
      held g u at (inl here) = subst HoldsWhatIsOwed (some_is t u (sym (subst (λ g. place_at g (with_place p f t) ≡ Some t) (sym here) (with_found p f s t found)) ∙ at)) exact
      held g u at (inr other) = placed.exact g u (sym (with_other p g f t other) ∙ at)

      by : (g : Found) (u : Topic) → place_at g (with_place p f t) ≡ Some u → (g ≡ f) ⊎ (g ≡ f → ⊥) → target_of u ≡ g
      by g u at (inl here) = ap target_of (some_is u t (sym at ∙ subst (λ g. place_at g (with_place p f t) ≡ Some t) (sym here) (with_found p f s t found))) ∙ with_on ∙ sym here
      by g u at (inr other) = placed.on g u (sym (with_other p g f t other) ∙ at)

  pub with_handles : handles_on (with_place p f t) f ≡ handles_of t
  with_handles = ap handles_in_place (with_found p f s t found)

  pub old_handles : handles_on p f ≡ handles_of s
  old_handles = ap handles_in_place found

  pub with_elsewhere : (g : Found) → (g ≡ f → ⊥) → handles_on (with_place p f t) g ≡ handles_on p g
  with_elsewhere g other = ap handles_in_place (with_other p g f t other)

  module _ (right : IsRight t) (old : (g : Found) → AreOn (is_directory g) (number_of g) (handles_on p g)) where
    pub with_handles_on : (g : Found) → AreOn (is_directory g) (number_of g) (handles_on (with_place p f t) g)
    with_handles_on g = by (found_cases g f)
      where
        by : (g ≡ f) ⊎ (g ≡ f → ⊥) → AreOn (is_directory g) (number_of g) (handles_on (with_place p f t) g)
        by (inl here) = subst (λ g. AreOn (is_directory g) (number_of g) (handles_on (with_place p f t) g)) (sym here)
            (subst (AreOn (is_directory f) (number_of f)) (sym with_handles) (subst (λ f. AreOn (is_directory f) (number_of f) (handles_of t)) with_on right.on_topic))
        by (inr other) = subst (AreOn (is_directory g) (number_of g)) (sym (with_elsewhere g other)) (old g)
