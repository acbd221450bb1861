-- A place goes on which nobody is.
use Rattle.std.proofs.Common.{◌≡◌, ◌<◌, ℕ, ◌+◌, Bool, true, false, cond, eqb, eqb-true, ne_eqb, List, [], ◌∷◌, map, Some, None, refl, sym, ap, ◌∙◌, subst, arith}
use Rattle.std.specs.Prelude.{find, option_map}
use Rattle.pps_types.specs.declared.found.Found.{Found}
use Rattle.pps_types.specs.declared.found.Found.TheVariants.{Object as FoundObject, Directory as FoundDirectory}
use Rattle.pps_types.specs.Reading.{OpenHandle}
use Rattle.pps_types.specs.Rests.{Progress}
use Rattle.pps_types.specs.WellFormed.{RiseBetween}
use Rattle.service_laws.proofs.Rising.{rising-lower}
use Rattle.number_table.specs.Numbered.{Entry as Numbering, Numbered, has_number, value_under, without_first}
use Rattle.topics.specs.declared.topic.Topic.{Topic}
use Rattle.open_handles.specs.Whole.{Whole, IsWhole, handles_in, handles_at, handles_in_place, topic_at, KeepsRecords}
use Rattle.open_handles.proofs.Wholes.{bare_handles, bare_whole, bare_records}

module _ {T : Type 0} where
  abbrev told : Numbering T → T
  told e = e.value

  abbrev entry_number : Numbering T → ℕ
  entry_number e = e.number

  pub under_other : (m n : ℕ) → (m ≡ n → ⊥) → (es : List (Numbering T)) → value_under m (without_first (has_number n) es) ≡ value_under m es
  under_other m n apart [] = refl
  under_other m n apart (e ∷ es) = by (eqb e.number n) refl (under_other m n apart es)
    where
      by : (b : Bool) → eqb e.number n ≡ b → value_under m (without_first (has_number n) es) ≡ value_under m es → value_under m (cond b es (e ∷ without_first (has_number n) es)) ≡ value_under m (e ∷ es)
      by true same rest = sym (ap (λ b. option_map told (cond b (Some e) (find (has_number m) es))) (ne_eqb e.number m (λ is_m. apart (sym is_m ∙ eqb-true e.number n same))))
      by false same rest = go (eqb e.number m)
        where
          go : (b : Bool) → option_map told (cond b (Some e) (find (has_number m) (without_first (has_number n) es))) ≡ option_map told (cond b (Some e) (find (has_number m) es))
          go true = refl
          go false = rest

  rise_without : (n low high : ℕ) (es : List (Numbering T)) → RiseBetween low (map entry_number es) high → RiseBetween low (map entry_number (without_first (has_number n) es)) high
  rise_without n low high [] r = r
  rise_without n low high (e ∷ es) r =
      elim (eqb e.number n) as (λ b. RiseBetween low (map entry_number (cond b es (e ∷ without_first (has_number n) es))) high)
      [ true ↦ rising-lower (e.number + 1) low high (map entry_number es) (let le = r.0 in omega arith) r.1 | false ↦ (r.0, rise_without n (e.number + 1) high es r.1) ]

  none_over : (n low high : ℕ) (es : List (Numbering T)) → n < low → RiseBetween low (map entry_number es) high → value_under n es ≡ None
  none_over n low high [] lt r = refl
  none_over n low high (e ∷ es) lt r = ap (λ b. option_map told (cond b (Some e) (find (has_number n) es))) (ne_eqb e.number n (λ same. let le = r.0 in absurd (omega arith))) ∙ none_over n (e.number + 1) high es (let le = r.0 in omega arith) r.1

  pub under_gone : (n low high : ℕ) (es : List (Numbering T)) → RiseBetween low (map entry_number es) high → value_under n (without_first (has_number n) es) ≡ None
  under_gone n low high [] r = refl
  under_gone n low high (e ∷ es) r = by (eqb e.number n) refl (under_gone n (e.number + 1) high es r.1)
    where
      by : (b : Bool) → eqb e.number n ≡ b → value_under n (without_first (has_number n) es) ≡ None → value_under n (cond b es (e ∷ without_first (has_number n) es)) ≡ None
      by true same rest = none_over n (e.number + 1) high es (let is = eqb-true e.number n same in omega arith) r.1
      by false same rest = ap (λ b. option_map told (cond b (Some e) (find (has_number n) (without_first (has_number n) es)))) same ∙ rest

  -- nothing is taken out where there is nothing
  pub without_absent : (n : ℕ) (es : List (Numbering T)) → value_under n es ≡ None → without_first (has_number n) es ≡ es
  without_absent n [] none = refl
  without_absent n (e ∷ es) none = by (eqb e.number n) none (without_absent n es)
    where
      by : (b : Bool) → option_map told (cond b (Some e) (find (has_number n) es)) ≡ None → (value_under n es ≡ None → without_first (has_number n) es ≡ es) → cond b es (e ∷ without_first (has_number n) es) ≡ e ∷ es
      by true none rest = absurd (let bad = none in cc)
      by false none rest = ap (λ xs. e ∷ xs) (rest none)

pub record IsDropped (f : Found) (old new : Whole) : Type 0 where
  pub whole : IsWhole new
  pub handles : handles_in new ≡ handles_in old
  pub gone : handles_at f old ≡ [] → topic_at f new ≡ None
  pub used : (handles_at f old ≡ [] → ⊥) → new ≡ old
  pub others : (g : Found) → (g ≡ f → ⊥) → topic_at g new ≡ topic_at g old
  pub records : KeepsRecords old new

stayed : (f : Found) (old new : Whole) → IsWhole old → (handles_at f old ≡ [] → ⊥) → new ≡ old → IsDropped f old new
stayed f old new whole some same = subst (λ w. IsDropped f old w) (sym same) (record { whole = whole; handles = refl; gone = λ none. absurd (some none); used = λ some. refl; others = λ g other. refl; records = λ es room. room })

went : (f : Found) (old new : Whole) (whole : IsWhole old) → handles_at f old ≡ [] → topic_at f new ≡ None → new.rows ≡ old.rows → ((g : Found) → (g ≡ f → ⊥) → topic_at g new ≡ topic_at g old)
    → RiseBetween 0 (map (λ (e : Numbering Topic). e.number) new.objects.entries) new.objects.next → RiseBetween 0 (map (λ (e : Numbering Topic). e.number) new.directories.entries) new.directories.next → IsDropped f old new
went f old new whole none here rows elsewhere objects_rise directories_rise =
    let next : new.rows.next ≡ old.rows.next = ap (λ (t : Numbered Found). t.next) rows in
    let entries : new.rows.entries ≡ old.rows.entries = ap (λ (t : Numbered Found). t.entries) rows in
    let nobody : handles_at f new ≡ handles_at f old = ap handles_in_place here ∙ sym none in
    record {
      whole = bare_whole old new whole f entries next elsewhere nobody objects_rise directories_rise (λ s at. absurd (let bad : None ≡ Some s = sym here ∙ at in cc)) (λ s at. absurd (let bad : None ≡ Some s = sym here ∙ at in cc));
      handles = bare_handles old new whole f entries next elsewhere nobody objects_rise directories_rise;
      gone = λ is. here;
      used = λ some. absurd (some none);
      others = elsewhere;
      records = bare_records old new whole f entries next elsewhere nobody objects_rise directories_rise none;
    }

empty_or : (hs : List (OpenHandle Progress)) (A : Type 0) → (hs ≡ [] → A) → ((hs ≡ [] → ⊥) → A) → A
empty_or [] A yes_case no_case = yes_case refl
empty_or (h ∷ hs) A yes_case no_case = no_case (λ e. cc)

module _ (rows : Numbered Found) (objects directories : Numbered Topic) (whole : IsWhole (record { rows = rows; objects = objects; directories = directories })) (n m : ℕ) (same : m ≡ n) (more : Numbered Topic) where
  abbrev old_object : Whole
  old_object = record { rows = rows; objects = objects; directories = directories }

  abbrev new_object : Whole
  new_object = record { rows = rows; objects = more; directories = directories }

  pub dropped_object : (handles_in_place (value_under m objects.entries) ≡ [] → more.entries ≡ without_first (has_number m) objects.entries) → ((handles_in_place (value_under m objects.entries) ≡ [] → ⊥) → more ≡ objects) → more.next ≡ objects.next
      → IsDropped (FoundObject n) (record { rows = rows; objects = objects; directories = directories }) (record { rows = rows; objects = more; directories = directories })
  dropped_object gone used next = empty_or (handles_in_place (value_under m objects.entries)) (IsDropped (FoundObject n) old_object new_object) empty full
    where
      empty : handles_in_place (value_under m objects.entries) ≡ [] → IsDropped (FoundObject n) old_object new_object
      empty none =
          let are : more.entries ≡ without_first (has_number n) objects.entries = gone none ∙ ap (λ k. without_first (has_number k) objects.entries) same in
          went (FoundObject n) old_object new_object whole (ap (λ k. handles_in_place (value_under k objects.entries)) (sym same) ∙ none) (ap (value_under n) are ∙ under_gone n 0 objects.next objects.entries whole.placed.objects_rise) refl
          (elsewhere are)
          (subst (λ k. RiseBetween 0 (map (λ (e : Numbering Topic). e.number) more.entries) k) (sym next) (subst (λ es. RiseBetween 0 (map (λ (e : Numbering Topic). e.number) es) objects.next) (sym are) (rise_without n 0 objects.next objects.entries whole.placed.objects_rise)))
          whole.placed.directories_rise
        where
          elsewhere : more.entries ≡ without_first (has_number n) objects.entries → (g : Found) → (g ≡ FoundObject n → ⊥) → topic_at g new_object ≡ topic_at g old_object
          elsewhere are (FoundObject k) other = ap (value_under k) are ∙ under_other k n (λ is. other (ap FoundObject is)) objects.entries
          elsewhere are (FoundDirectory k) other = refl

      full : (handles_in_place (value_under m objects.entries) ≡ [] → ⊥) → IsDropped (FoundObject n) old_object new_object
      full some = stayed (FoundObject n) old_object new_object whole (λ none. some (ap (λ k. handles_in_place (value_under k objects.entries)) same ∙ none)) (λ i. record { rows = rows; objects = used some i; directories = directories })

  abbrev old_directory : Whole
  old_directory = record { rows = rows; objects = objects; directories = directories }

  abbrev new_directory : Whole
  new_directory = record { rows = rows; objects = objects; directories = more }

  pub dropped_directory : (handles_in_place (value_under m directories.entries) ≡ [] → more.entries ≡ without_first (has_number m) directories.entries) → ((handles_in_place (value_under m directories.entries) ≡ [] → ⊥) → more ≡ directories) → more.next ≡ directories.next
      → IsDropped (FoundDirectory n) (record { rows = rows; objects = objects; directories = directories }) (record { rows = rows; objects = objects; directories = more })
  dropped_directory gone used next = empty_or (handles_in_place (value_under m directories.entries)) (IsDropped (FoundDirectory n) old_directory new_directory) empty full
    where
      empty : handles_in_place (value_under m directories.entries) ≡ [] → IsDropped (FoundDirectory n) old_directory new_directory
      empty none =
          let are : more.entries ≡ without_first (has_number n) directories.entries = gone none ∙ ap (λ k. without_first (has_number k) directories.entries) same in
          went (FoundDirectory n) old_directory new_directory whole (ap (λ k. handles_in_place (value_under k directories.entries)) (sym same) ∙ none) (ap (value_under n) are ∙ under_gone n 0 directories.next directories.entries whole.placed.directories_rise) refl
          (elsewhere are)
          whole.placed.objects_rise
          (subst (λ k. RiseBetween 0 (map (λ (e : Numbering Topic). e.number) more.entries) k) (sym next) (subst (λ es. RiseBetween 0 (map (λ (e : Numbering Topic). e.number) es) directories.next) (sym are) (rise_without n 0 directories.next directories.entries whole.placed.directories_rise)))
        where
          elsewhere : more.entries ≡ without_first (has_number n) directories.entries → (g : Found) → (g ≡ FoundDirectory n → ⊥) → topic_at g new_directory ≡ topic_at g old_directory
          elsewhere are (FoundDirectory k) other = ap (value_under k) are ∙ under_other k n (λ is. other (ap FoundDirectory is)) directories.entries
          elsewhere are (FoundObject k) other = refl

      full : (handles_in_place (value_under m directories.entries) ≡ [] → ⊥) → IsDropped (FoundDirectory n) old_directory new_directory
      full some = stayed (FoundDirectory n) old_directory new_directory whole (λ none. some (ap (λ k. handles_in_place (value_under k directories.entries)) same ∙ none)) (λ i. record { rows = rows; objects = objects; directories = used some i })
