-- Handles by rows: one is looked up, each is changed, one leaves and one comes.
use Rattle.std.proofs.Common.{◌≡◌, ◌≤◌, ℕ, ◌+◌, Bool, true, false, cond, eqb, eqb-true, ne_eqb, List, [], ◌∷◌, map, Option, Some, None, refl, sym, ap, ◌∙◌, subst, arith, ◌⊎◌, inl, inr}
use Rattle.std.specs.Prelude.{find, is_some, option_map, option_and_then}
use Rattle.std.specs.List.{AllByRecursion, filter_map, cons_option}
use Rattle.pps_types.specs.declared.found.Found.{Found}
use Rattle.pps_types.specs.Reading.{OpenHandle}
use Rattle.pps_types.specs.Rests.{Progress}
use Rattle.pps_types.specs.Plan.{on_numbered, without_number}
use Rattle.pps_types.specs.WellFormed.{RiseBetween}
use Rattle.service_laws.proofs.Finds.{all-imp, all-both}
use Rattle.service_laws.proofs.Rising.{rising-lower, rising-above}
use Rattle.pps_types.specs.Rising.{IsRising}
use Rattle.number_table.specs.Numbered.{Entry as Numbering, has_number, value_under, without_first}
use Rattle.sub_reader.specs.Opened.{handle_at, is_directory, number_of}
use Rattle.sub_reader.specs.HandlesOf.{AreOn}
use Rattle.open_handles.specs.Whole.{row_handle, AreRowed}
use Rattle.open_handles.proofs.Finds.{some_is, differ, found_cases, at_number, at_map, all_map, NoneNumbered, is_rising, where_numbered, same_number, unchanged, changed_map, at_without, all_without, none_without}

abbrev pub row_number : Numbering Found → ℕ
row_number e = e.number

-- ---- one is looked up

module _ (on : Found → List (OpenHandle Progress)) where
  pub found_in : (n : ℕ) (es : List (Numbering Found)) → AllByRecursion (λ e. is_some (row_handle on e) ≡ true) es → handle_at n (filter_map (row_handle on) es) ≡ option_and_then (λ f. handle_at n (on f)) (value_under n es)
  found_in n [] all = refl
  found_in n (e ∷ es) all = by (row_handle on e) refl all.0 (found_in n es all.1)
    where
      at : (h : OpenHandle Progress) → row_handle on e ≡ Some h → (b : Bool) → eqb e.number n ≡ b
          → handle_at n (filter_map (row_handle on) es) ≡ option_and_then (λ f. handle_at n (on f)) (value_under n es)
          → cond b (Some h) (handle_at n (filter_map (row_handle on) es)) ≡ option_and_then (λ f. handle_at n (on f)) (option_map (λ (e : Numbering Found). e.value) (cond b (Some e) (find (has_number n) es)))
      at h is true same rest = sym (ap (λ m. handle_at m (on e.value)) (sym (eqb-true e.number n same)) ∙ is)
      at h is false same rest = rest

      by : (o : Option (OpenHandle Progress)) → row_handle on e ≡ o → is_some o ≡ true
          → handle_at n (filter_map (row_handle on) es) ≡ option_and_then (λ f. handle_at n (on f)) (value_under n es)
          → handle_at n (cons_option o (filter_map (row_handle on) es)) ≡ option_and_then (λ f. handle_at n (on f)) (value_under n (e ∷ es))
      by None is some rest = absurd (let bad = some in cc)
      by (Some h) is some rest =
          ap (λ m. cond (eqb m n) (Some h) (handle_at n (filter_map (row_handle on) es))) (at_number e.number (on e.value) h is)
          ∙ at h is (eqb e.number n) refl rest

  -- the numbers of the handles rise as those of the rows
  pub handles_rise : (low high : ℕ) (es : List (Numbering Found)) → RiseBetween low (map row_number es) high → RiseBetween low (map (λ h. h.number) (filter_map (row_handle on) es)) high
  handles_rise low high [] r = r
  handles_rise low high (e ∷ es) r = by (row_handle on e) refl (handles_rise (e.number + 1) high es r.1)
    where
      by : (o : Option (OpenHandle Progress)) → row_handle on e ≡ o → RiseBetween (e.number + 1) (map (λ h. h.number) (filter_map (row_handle on) es)) high → RiseBetween low (map (λ h. h.number) (cons_option o (filter_map (row_handle on) es))) high
      by None is rest = rising-lower (e.number + 1) low high (map (λ h. h.number) (filter_map (row_handle on) es)) (let le = r.0 in omega arith) rest
      by (Some h) is rest = subst (λ m. (low ≤ m) × RiseBetween (m + 1) (map (λ h. h.number) (filter_map (row_handle on) es)) high) (sym (at_number e.number (on e.value) h is)) (r.0, rest)

-- what is under the number of a handle is where it is
module _ (on : Found → List (OpenHandle Progress)) (rows : List (Numbering Found)) (next : ℕ) (rowed : AreRowed on rows next) where
  -- a handle of another place has another number
  pub none_elsewhere : (n : ℕ) (f g : Found) → value_under n rows ≡ Some f → (g ≡ f → ⊥) → NoneNumbered n (on g)
  none_elsewhere n f g under other = all-imp (λ (h : OpenHandle Progress). value_under h.number rows ≡ Some g) (λ (h : OpenHandle Progress). eqb h.number n ≡ false) (λ h own. ne_eqb h.number n (λ same. other (some_is g f (sym own ∙ ap (λ m. value_under m rows) same ∙ under)))) (on g) (rowed.own g)

  -- a number that no row has, no handle has
  pub none_anywhere : (n : ℕ) (g : Found) → value_under n rows ≡ None → NoneNumbered n (on g)
  none_anywhere n g under = all-imp (λ (h : OpenHandle Progress). value_under h.number rows ≡ Some g) (λ (h : OpenHandle Progress). eqb h.number n ≡ false) (λ h own. ne_eqb h.number n (λ same. let bad : None ≡ Some g = sym under ∙ ap (λ m. value_under m rows) (sym same) ∙ own in cc)) (on g) (rowed.own g)

  pub all_rise : IsRising (λ h. h.number) (filter_map (row_handle on) rows)
  all_rise = is_rising 0 next (filter_map (row_handle on) rows) (handles_rise on 0 next rows rowed.rise)

-- ---- each is changed

module _ (c : OpenHandle Progress → OpenHandle Progress) (same : (h : OpenHandle Progress) → (c h).number ≡ h.number) (on then : Found → List (OpenHandle Progress)) (are : (f : Found) → then f ≡ map c (on f)) where
  mapped_at : (e : Numbering Found) → row_handle then e ≡ option_map c (row_handle on e)
  mapped_at e = ap (handle_at e.number) (are e.value) ∙ at_map c same e.number (on e.value)

  pub mapped : (es : List (Numbering Found)) → filter_map (row_handle then) es ≡ map c (filter_map (row_handle on) es)
  mapped [] = refl
  mapped (e ∷ es) = ap (λ o. cons_option o (filter_map (row_handle then) es)) (mapped_at e) ∙ ap (cons_option (option_map c (row_handle on e))) (mapped es) ∙ by (row_handle on e)
    where
      by : (o : Option (OpenHandle Progress)) → cons_option (option_map c o) (map c (filter_map (row_handle on) es)) ≡ map c (cons_option o (filter_map (row_handle on) es))
      by None = refl
      by (Some h) = refl

  some_map : (o : Option (OpenHandle Progress)) → is_some (option_map c o) ≡ is_some o
  some_map None = refl
  some_map (Some h) = refl

  pub mapped_rowed : (rows : List (Numbering Found)) (next : ℕ) → AreRowed on rows next → ((f : Found) → AreOn (is_directory f) (number_of f) (then f)) → AreRowed then rows next
  mapped_rowed rows next rowed on_topic = record {
    rise = rowed.rise;
    on_topic = on_topic;
    each = all-imp (λ (e : Numbering Found). is_some (row_handle on e) ≡ true) (λ (e : Numbering Found). is_some (row_handle then e) ≡ true) (λ e some. ap is_some (mapped_at e) ∙ some_map (row_handle on e) ∙ some) rows rowed.each;
    own = λ f. subst (λ hs. AllByRecursion (λ h. value_under h.number rows ≡ Some f) hs) (sym (are f)) (all_map (λ (h : OpenHandle Progress). value_under h.number rows ≡ Some f) (λ (h : OpenHandle Progress). value_under h.number rows ≡ Some f) c (λ h own. ap (λ m. value_under m rows) (same h) ∙ own) (on f) (rowed.own f));
  }

-- ---- one is changed

module _ (on then : Found → List (OpenHandle Progress)) (rows : List (Numbering Found)) (next : ℕ) (rowed : AreRowed on rows next) (n : ℕ) (f : Found) (under : value_under n rows ≡ Some f)
    (elsewhere : (g : Found) → (g ≡ f → ⊥) → then g ≡ on g) where
  module _ (change : OpenHandle Progress → OpenHandle Progress) (same : (h : OpenHandle Progress) → (change h).number ≡ h.number) (is : then f ≡ on_numbered n change (on f)) where
    pub changed_each : (g : Found) → then g ≡ map (where_numbered n change) (on g)
    changed_each g = by (found_cases g f)
      where
        by : (g ≡ f) ⊎ (g ≡ f → ⊥) → then g ≡ map (where_numbered n change) (on g)
        by (inl same) = subst (λ g. then g ≡ map (where_numbered n change) (on g)) (sym same) (is ∙ changed_map n change (on f) (rowed.on_topic f).rising)
        by (inr other) = elsewhere g other ∙ sym (unchanged n change (on g) (none_elsewhere on rows next rowed n f g under other))

    pub changed : filter_map (row_handle then) rows ≡ on_numbered n change (filter_map (row_handle on) rows)
    changed = mapped (where_numbered n change) (same_number n change same) on then changed_each rows ∙ sym (changed_map n change (filter_map (row_handle on) rows) (all_rise on rows next rowed))

    pub changed_rowed : ((g : Found) → AreOn (is_directory g) (number_of g) (then g)) → AreRowed then rows next
    changed_rowed = mapped_rowed (where_numbered n change) (same_number n change same) on then changed_each rows next rowed

  -- ---- one leaves

  module _ (is : then f ≡ without_number n (on f)) where
    gone : (g : Found) → NoneNumbered n (then g)
    gone g = by (found_cases g f)
      where
        by : (g ≡ f) ⊎ (g ≡ f → ⊥) → NoneNumbered n (then g)
        by (inl same) = subst (λ g. NoneNumbered n (then g)) (sym same) (subst (NoneNumbered n) (sym is) (none_without n (on f) (rowed.on_topic f).rising))
        by (inr other) = subst (NoneNumbered n) (sym (elsewhere g other)) (none_elsewhere on rows next rowed n f g under other)

    owned : (g : Found) → AllByRecursion (λ (h : OpenHandle Progress). value_under h.number rows ≡ Some g) (then g)
    owned g = by (found_cases g f)
      where
        by : (g ≡ f) ⊎ (g ≡ f → ⊥) → AllByRecursion (λ (h : OpenHandle Progress). value_under h.number rows ≡ Some g) (then g)
        by (inl same) = subst (λ g. AllByRecursion (λ (h : OpenHandle Progress). value_under h.number rows ≡ Some g) (then g)) (sym same) (subst (AllByRecursion (λ (h : OpenHandle Progress). value_under h.number rows ≡ Some f)) (sym is) (all_without (λ (h : OpenHandle Progress). value_under h.number rows ≡ Some f) n (on f) (rowed.own f)))
        by (inr other) = subst (AllByRecursion (λ (h : OpenHandle Progress). value_under h.number rows ≡ Some g)) (sym (elsewhere g other)) (rowed.own g)

    others_at : (m : ℕ) → (m ≡ n → ⊥) → (g : Found) → handle_at m (then g) ≡ handle_at m (on g)
    others_at m apart g = by (found_cases g f)
      where
        by : (g ≡ f) ⊎ (g ≡ f → ⊥) → handle_at m (then g) ≡ handle_at m (on g)
        by (inl same) = subst (λ g. handle_at m (then g) ≡ handle_at m (on g)) (sym same) (ap (handle_at m) is ∙ at_without m n (on f) apart)
        by (inr other) = ap (handle_at m) (elsewhere g other)

    -- a row of another number
    other_row : (e : Numbering Found) → (e.number ≡ n → ⊥) → row_handle then e ≡ row_handle on e
    other_row e apart = others_at e.number apart e.value

    other_rows : (es : List (Numbering Found)) → AllByRecursion (λ (e : Numbering Found). e.number ≡ n → ⊥) es → filter_map (row_handle then) es ≡ filter_map (row_handle on) es
    other_rows [] all = refl
    other_rows (e ∷ es) all = λ i. cons_option (other_row e all.0 i) (other_rows es all.1 i)

    above_apart : (m : ℕ) → m ≡ n → (high : ℕ) (es : List (Numbering Found)) → RiseBetween (m + 1) (map row_number es) high → AllByRecursion (λ (e : Numbering Found). e.number ≡ n → ⊥) es
    above_apart m is_n high es r = all-imp (λ (e : Numbering Found). m + 1 ≤ e.number) (λ (e : Numbering Found). e.number ≡ n → ⊥) (λ e le bad. omega arith) es (rising-above row_number (m + 1) high es r)

    left : (low high : ℕ) (es : List (Numbering Found)) → RiseBetween low (map row_number es) high → AllByRecursion (λ (e : Numbering Found). is_some (row_handle on e) ≡ true) es
        → filter_map (row_handle then) (without_first (has_number n) es) ≡ without_number n (filter_map (row_handle on) es)
    left low high [] r each = refl
    left low high (e ∷ es) r each = by (row_handle on e) refl each.0 (eqb e.number n) refl (left (e.number + 1) high es r.1 each.1)
      where
        by : (o : Option (OpenHandle Progress)) → row_handle on e ≡ o → is_some o ≡ true → (b : Bool) → eqb e.number n ≡ b
            → filter_map (row_handle then) (without_first (has_number n) es) ≡ without_number n (filter_map (row_handle on) es)
            → filter_map (row_handle then) (cond b es (e ∷ without_first (has_number n) es)) ≡ without_number n (cons_option o (filter_map (row_handle on) es))
        by None at some b same rest = absurd (let bad = some in cc)
        by (Some h) at some true same rest =
            other_rows es (above_apart e.number (eqb-true e.number n same) high es r.1)
            ∙ sym (ap (λ b. cond b (filter_map (row_handle on) es) (h ∷ without_number n (filter_map (row_handle on) es))) (ap (λ m. eqb m n) (at_number e.number (on e.value) h at) ∙ same))
        by (Some h) at some false same rest =
            ap (λ o. cons_option o (filter_map (row_handle then) (without_first (has_number n) es))) (other_row e (differ e.number n same) ∙ at)
            ∙ ap (λ xs. h ∷ xs) rest
            ∙ sym (ap (λ b. cond b (filter_map (row_handle on) es) (h ∷ without_number n (filter_map (row_handle on) es))) (ap (λ m. eqb m n) (at_number e.number (on e.value) h at) ∙ same))

    pub closed : filter_map (row_handle then) (without_first (has_number n) rows) ≡ without_number n (filter_map (row_handle on) rows)
    closed = left 0 next rows rowed.rise rowed.each

    under_without : (m : ℕ) → (m ≡ n → ⊥) → (es : List (Numbering Found)) → value_under m (without_first (has_number n) es) ≡ value_under m es
    under_without m apart [] = refl
    under_without m apart (e ∷ es) = by (eqb e.number n) refl (under_without m apart es)
      where
        by : (b : Bool) → eqb e.number n ≡ b → value_under m (without_first (has_number n) es) ≡ value_under m es → value_under m (cond b es (e ∷ without_first (has_number n) es)) ≡ value_under m (e ∷ es)
        by true same rest = sym (ap (λ b. option_map (λ (e : Numbering Found). e.value) (cond b (Some e) (find (has_number m) es))) (ne_eqb e.number m (λ is_m. apart (sym is_m ∙ eqb-true e.number n same))))
        by false same rest = go (eqb e.number m)
          where
            go : (b : Bool) → option_map (λ (e : Numbering Found). e.value) (cond b (Some e) (find (has_number m) (without_first (has_number n) es))) ≡ option_map (λ (e : Numbering Found). e.value) (cond b (Some e) (find (has_number m) es))
            go true = refl
            go false = rest

    rise_without : (low high : ℕ) (es : List (Numbering Found)) → RiseBetween low (map row_number es) high → RiseBetween low (map row_number (without_first (has_number n) es)) high
    rise_without low high [] r = r
    rise_without low high (e ∷ es) r =
        elim (eqb e.number n) as (λ b. RiseBetween low (map row_number (cond b es (e ∷ without_first (has_number n) es))) high)
        [ true ↦ rising-lower (e.number + 1) low high (map row_number es) (let le = r.0 in omega arith) r.1 | false ↦ (r.0, rise_without (e.number + 1) high es r.1) ]

    each_without : (low high : ℕ) (es : List (Numbering Found)) → RiseBetween low (map row_number es) high → AllByRecursion (λ (e : Numbering Found). is_some (row_handle on e) ≡ true) es
        → AllByRecursion (λ (e : Numbering Found). is_some (row_handle then e) ≡ true) (without_first (has_number n) es)
    each_without low high [] r each = tt
    each_without low high (e ∷ es) r each = by (eqb e.number n) refl (each_without (e.number + 1) high es r.1 each.1)
      where
        kept : (xs : List (Numbering Found)) → AllByRecursion (λ (e : Numbering Found). e.number ≡ n → ⊥) xs → AllByRecursion (λ (e : Numbering Found). is_some (row_handle on e) ≡ true) xs → AllByRecursion (λ (e : Numbering Found). is_some (row_handle then e) ≡ true) xs
        kept [] apart each = tt
        kept (x ∷ xs) apart each = (ap is_some (other_row x apart.0) ∙ each.0, kept xs apart.1 each.1)

        by : (b : Bool) → eqb e.number n ≡ b → AllByRecursion (λ (e : Numbering Found). is_some (row_handle then e) ≡ true) (without_first (has_number n) es)
            → AllByRecursion (λ (e : Numbering Found). is_some (row_handle then e) ≡ true) (cond b es (e ∷ without_first (has_number n) es))
        by true same rest = kept es (above_apart e.number (eqb-true e.number n same) high es r.1) each.1
        by false same rest = (ap is_some (other_row e (differ e.number n same)) ∙ each.0, rest)

    pub closed_rowed : ((g : Found) → AreOn (is_directory g) (number_of g) (then g)) → AreRowed then (without_first (has_number n) rows) next
    closed_rowed on_topic = record {
      rise = rise_without 0 next rows rowed.rise;
      on_topic = on_topic;
      each = each_without 0 next rows rowed.rise rowed.each;
      own = λ g. all-imp (λ (h : OpenHandle Progress). (eqb h.number n ≡ false) × (value_under h.number rows ≡ Some g)) (λ (h : OpenHandle Progress). value_under h.number (without_first (has_number n) rows) ≡ Some g)
          (λ h both. under_without h.number (differ h.number n both.0) rows ∙ both.1) (then g) (all-both (λ (h : OpenHandle Progress). eqb h.number n ≡ false) (λ (h : OpenHandle Progress). value_under h.number rows ≡ Some g) (then g) (gone g) (owned g));
    }
