-- Handles whose places are copies.
use Rattle.std.proofs.Common.{◌≡◌, ℕ, Bool, true, false, cond, List, [], ◌∷◌, map, Option, Some, None, refl, sym, ap, ◌∙◌, subst}
use Rattle.std.specs.Prelude.{option_map, find}
use Rattle.std.specs.Option.{option_map_or}
use Rattle.std.specs.List.{AllZip, filter_map}
use Rattle.std.specs.Prelude.{◌==◌}
use Rattle.pps_types.specs.declared.found.Found.{Found}
use Rattle.pps_types.specs.declared.found.Found.TheVariants.{Object as FoundObject, Directory as FoundDirectory}
use Rattle.pps_types.specs.Owed.{longest_rest}
use Rattle.pps_types.specs.WellFormed.{RiseBetween}
use Rattle.number_table.specs.Numbered.{Entry as Numbering, Numbered, value_under, has_number, IsCloneEntry}
use Rattle.sub_reader.specs.Opened.{is_directory, number_of}
use Rattle.topics.specs.declared.topic.Topic.{Topic}
use Rattle.topics.specs.HandlesOf.{target_of, kept_of, IsCopy}
use Rattle.open_handles.specs.declared.places.Places.{Places}
use Rattle.open_handles.specs.Whole.{IsWhole, ArePlaced, AreRowed, HoldsWhatIsOwed, site_of, site_at, kept_at, place_at, handles_on, handles_in, handles_in_place, row_handle}
use Rattle.open_handles.proofs.Wholes.{same_rowed, same_filter}
use Rattle.open_handles.proofs.Turns.{whole_of}

-- the one is a copy of the other, or neither is there
abbrev pub AreAlike : Option Topic → Option Topic → Type 0
AreAlike None None = Unit {0}
AreAlike None (Some t) = ⊥
AreAlike (Some s) None = ⊥
AreAlike (Some s) (Some t) = IsCopy s t

abbrev AreCopies : List (Numbering Topic) → List (Numbering Topic) → Type 0
AreCopies es fs = AllZip (IsCloneEntry IsCopy) es fs

alike_under : (n : ℕ) (es fs : List (Numbering Topic)) → AreCopies es fs → AreAlike (value_under n es) (value_under n fs)
alike_under n [] [] z = tt
alike_under n [] (f ∷ fs) z = absurd z
alike_under n (e ∷ es) [] z = absurd z
alike_under n (e ∷ es) (f ∷ fs) z =
    subst (λ m. AreAlike (value_under n (e ∷ es)) (option_map (λ (x : Numbering Topic). x.value) (cond (m == n) (Some f) (find (has_number n) fs)))) (sym z.0.0) (by (e.number == n) (alike_under n es fs z.1))
  where
    by : (b : Bool) → AreAlike (value_under n es) (value_under n fs)
        → AreAlike (option_map (λ (x : Numbering Topic). x.value) (cond b (Some e) (find (has_number n) es))) (option_map (λ (x : Numbering Topic). x.value) (cond b (Some f) (find (has_number n) fs)))
    by true rest = z.0.1
    by false rest = rest

copied_numbers : (es fs : List (Numbering Topic)) → AreCopies es fs → map (λ (e : Numbering Topic). e.number) fs ≡ map (λ (e : Numbering Topic). e.number) es
copied_numbers [] [] z = refl
copied_numbers [] (f ∷ fs) z = absurd z
copied_numbers (e ∷ es) [] z = absurd z
copied_numbers (e ∷ es) (f ∷ fs) z = λ i. z.0.0 i ∷ copied_numbers es fs z.1 i

-- ---- what is told of a place

alike_handles : (o u : Option Topic) → AreAlike o u → handles_in_place u ≡ handles_in_place o
alike_handles None None a = refl
alike_handles None (Some t) a = absurd a
alike_handles (Some s) None a = absurd a
alike_handles (Some s) (Some t) a = a.handles

alike_site : (o u : Option Topic) → AreAlike o u → option_map site_of u ≡ option_map site_of o
alike_site None None a = refl
alike_site None (Some t) a = absurd a
alike_site (Some s) None a = absurd a
alike_site (Some s) (Some t) a = λ i. Some (record { name = a.same.name i; service = a.same.service i })

alike_kept : (o u : Option Topic) → AreAlike o u → option_map_or kept_of u [] ≡ option_map_or kept_of o []
alike_kept None None a = refl
alike_kept None (Some t) a = absurd a
alike_kept (Some s) None a = absurd a
alike_kept (Some s) (Some t) a = a.kept

alike_target : (o : Option Topic) (t : Topic) (f : Found) → AreAlike o (Some t) → ((s : Topic) → o ≡ Some s → target_of s ≡ f) → target_of t ≡ f
alike_target None t f a on = absurd a
alike_target (Some s) t f a on = a.same.target ∙ on s refl

alike_exact : (o : Option Topic) (t : Topic) → AreAlike o (Some t) → ((s : Topic) → o ≡ Some s → HoldsWhatIsOwed s) → HoldsWhatIsOwed t
alike_exact None t a exact = absurd a
alike_exact (Some s) t a exact =
    a.kept ∙ exact s refl ∙ sym (λ i. longest_rest (is_directory (a.same.target i)) (number_of (a.same.target i)) (a.handles i))

-- ---- the whole

module _ (rows more : Numbered Found) (p q : Places) (whole : IsWhole (whole_of rows p)) (entries : more.entries ≡ rows.entries) (next : more.next ≡ rows.next)
    (objects : AllZip (IsCloneEntry IsCopy) p.objects.entries q.objects.entries) (next_object : q.objects.next ≡ p.objects.next)
    (directories : AllZip (IsCloneEntry IsCopy) p.directories.entries q.directories.entries) (next_directory : q.directories.next ≡ p.directories.next) where
  alike : (f : Found) → AreAlike (place_at f p) (place_at f q)
  alike (FoundObject n) = alike_under n p.objects.entries q.objects.entries objects
  alike (FoundDirectory n) = alike_under n p.directories.entries q.directories.entries directories

  same_on : (f : Found) → handles_on q f ≡ handles_on p f
  same_on f = alike_handles (place_at f p) (place_at f q) (alike f)

  pub copied_handles : handles_in (whole_of more q) ≡ handles_in (whole_of rows p)
  copied_handles = ap (filter_map (row_handle (handles_on q))) entries ∙ same_filter (handles_on p) (handles_on q) rows.entries same_on

  pub copied_sites : (f : Found) → site_at f (whole_of more q) ≡ site_at f (whole_of rows p)
  copied_sites f = alike_site (place_at f p) (place_at f q) (alike f)

  pub copied_kept : (f : Found) → kept_at f (whole_of more q) ≡ kept_at f (whole_of rows p)
  copied_kept f = alike_kept (place_at f p) (place_at f q) (alike f)

  copied_rows : AreRowed (handles_on q) more.entries more.next
  copied_rows =
      subst (λ m. AreRowed (handles_on q) more.entries m) (sym next)
      (subst (λ es. AreRowed (handles_on q) es rows.next) (sym entries) (same_rowed (handles_on p) (handles_on q) rows.entries rows.next same_on whole.rowed))

  copied_rise : (es fs : List (Numbering Topic)) (m n : ℕ) → AreCopies es fs → n ≡ m → RiseBetween 0 (map (λ (e : Numbering Topic). e.number) es) m → RiseBetween 0 (map (λ (e : Numbering Topic). e.number) fs) n
  copied_rise es fs m n z same rise = subst (λ m. RiseBetween 0 (map (λ (e : Numbering Topic). e.number) fs) m) (sym same) (subst (λ ns. RiseBetween 0 ns m) (sym (copied_numbers es fs z)) rise)

  copied_places : ArePlaced q
  copied_places = record {
    objects_rise = copied_rise p.objects.entries q.objects.entries p.objects.next q.objects.next objects next_object whole.placed.objects_rise;
    directories_rise = copied_rise p.directories.entries q.directories.entries p.directories.next q.directories.next directories next_directory whole.placed.directories_rise;
    on = λ f t at. alike_target (place_at f p) t f (subst (AreAlike (place_at f p)) at (alike f)) (whole.placed.on f);
    exact = λ f t at. alike_exact (place_at f p) t (subst (AreAlike (place_at f p)) at (alike f)) (whole.placed.exact f);
  }

  pub copied_whole : IsWhole (whole_of more q)
  copied_whole = record { rowed = copied_rows; placed = copied_places }
