-- All handles, where a table or a place is another.
use Rattle.std.proofs.Common.{◌≡◌, ◌≤◌, ℕ, ◌+◌, true, cond, eq-eqb, ne_eqb, List, [], ◌∷◌, ◌++◌, map, length, Option, Some, None, refl, sym, ap, ◌∙◌, subst, arith, ◌⊎◌, inl, inr}
use Rattle.std.specs.Prelude.{is_some}
use Rattle.std.specs.Option.{option_map_or}
use Rattle.std.specs.List.{AllByRecursion, filter_map, cons_option}
use Rattle.pps_types.specs.declared.found.Found.{Found}
use Rattle.pps_types.specs.declared.found.Found.TheVariants.{Object as FoundObject, Directory as FoundDirectory}
use Rattle.pps_types.specs.Reading.{OpenHandle}
use Rattle.pps_types.specs.Rests.{Progress}
use Rattle.pps_types.specs.WellFormed.{RiseBetween}
use Rattle.number_table.specs.Numbered.{Entry as Numbering, Numbered, value_under}
use Rattle.topics.specs.declared.topic.Topic.{Topic}
use Rattle.pps_types.specs.Owed.{longest_rest}
use Rattle.sub_reader.specs.Opened.{is_directory, number_of}
use Rattle.topics.specs.HandlesOf.{target_of, handles_of, kept_of, places_of as places_for}
use Rattle.open_handles.specs.Whole.{Whole, IsWhole, HoldsWhatIsOwed, AreRowed, row_handle, handles_in, handles_at, topic_at, handles_in_place, handle_of_row, room_at, KeepsPlaces, KeepsRecords, HasRoomAt, Fresh, IsFresh, site_of}
use Rattle.open_handles.proofs.Finds.{some_is, found_cases}
use Rattle.open_handles.proofs.Comes.{under_push, under_new, under_none, rise_push}

-- ---- the same

pub same_rowed : (on then : Found → List (OpenHandle Progress)) (rows : List (Numbering Found)) (next : ℕ) → ((f : Found) → then f ≡ on f) → AreRowed on rows next → AreRowed then rows next
same_rowed on then rows next are rowed = subst (λ (g : Found → List (OpenHandle Progress)). AreRowed g rows next) (λ i f. sym (are f) i) rowed

pub same_filter : (on then : Found → List (OpenHandle Progress)) (rows : List (Numbering Found)) → ((f : Found) → then f ≡ on f) → filter_map (row_handle then) rows ≡ filter_map (row_handle on) rows
same_filter on then rows are = ap (λ (g : Found → List (OpenHandle Progress)). filter_map (row_handle g) rows) (λ i f. are f i)

module _ (old new : Whole) (rows : new.rows.entries ≡ old.rows.entries) (next : new.rows.next ≡ old.rows.next) (objects : new.objects.entries ≡ old.objects.entries) (next_object : new.objects.next ≡ old.objects.next)
    (directories : new.directories.entries ≡ old.directories.entries) (next_directory : new.directories.next ≡ old.directories.next) where
  pub same_topic : (f : Found) → topic_at f new ≡ topic_at f old
  same_topic (FoundObject n) = ap (value_under n) objects
  same_topic (FoundDirectory n) = ap (value_under n) directories

  pub same_whole : IsWhole old → IsWhole new
  same_whole w = record {
    rowed = subst (λ m. AreRowed (λ f. handles_at f new) new.rows.entries m) (sym next) (subst (λ es. AreRowed (λ f. handles_at f new) es old.rows.next) (sym rows)
        (same_rowed (λ f. handles_at f old) (λ f. handles_at f new) old.rows.entries old.rows.next (λ f. ap handles_in_place (same_topic f)) w.rowed));
    placed = record {
      objects_rise = subst (λ m. RiseBetween 0 (map (λ (e : Numbering Topic). e.number) new.objects.entries) m) (sym next_object) (subst (λ es. RiseBetween 0 (map (λ (e : Numbering Topic). e.number) es) old.objects.next) (sym objects) w.placed.objects_rise);
      directories_rise = subst (λ m. RiseBetween 0 (map (λ (e : Numbering Topic). e.number) new.directories.entries) m) (sym next_directory) (subst (λ es. RiseBetween 0 (map (λ (e : Numbering Topic). e.number) es) old.directories.next) (sym directories) w.placed.directories_rise);
      on = λ f s at. w.placed.on f s (sym (same_topic f) ∙ at);
      exact = λ f s at. w.placed.exact f s (sym (same_topic f) ∙ at);
    };
  }

-- ---- as many as rows

module _ (on : Found → List (OpenHandle Progress)) where
  pub as_many : (es : List (Numbering Found)) → AllByRecursion (λ (e : Numbering Found). is_some (row_handle on e) ≡ true) es → length es ≡ length (filter_map (row_handle on) es)
  as_many [] each = refl
  as_many (e ∷ es) each = by (row_handle on e) each.0 (as_many es each.1)
    where
      by : (o : Option (OpenHandle Progress)) → is_some o ≡ true → length es ≡ length (filter_map (row_handle on) es) → length (e ∷ es) ≡ length (cons_option o (filter_map (row_handle on) es))
      by None some rest = absurd (let bad = some in cc)
      by (Some h) some rest = omega arith

pub many_in : (w : Whole) → IsWhole w → length w.rows.entries ≡ length (handles_in w)
many_in w whole = as_many (λ f. handles_at f w) w.rows.entries whole.rowed.each

-- ---- one more place, without handles

module _ (m n : ℕ) (s : Topic) (es : List (Numbering Topic)) where
  push_elsewhere : (m ≡ n → ⊥) → (o : Option Topic) → value_under m es ≡ o → value_under m (es ++ record { number = n; value = s } ∷ []) ≡ o
  push_elsewhere other None is = under_new m n s es is ∙ ap (λ b. cond b (Some s) None) (ne_eqb n m (λ same. other (sym same)))
  push_elsewhere other (Some t) is = under_push m n s t es is

push_here : (n high : ℕ) (s : Topic) (es : List (Numbering Topic)) → high ≤ n → RiseBetween 0 (map (λ (e : Numbering Topic). e.number) es) high → value_under n (es ++ record { number = n; value = s } ∷ []) ≡ Some s
push_here n high s es le r = under_new n n s es (under_none n 0 high es le r) ∙ ap (λ b. cond b (Some s) None) (eq-eqb n n refl)

module _ (old new : Whole) (whole : IsWhole old) (n : ℕ) (s : Topic) where
  module _ (above : old.objects.next ≤ n) (objects : new.objects.entries ≡ old.objects.entries ++ record { number = n; value = s } ∷ []) (next : new.objects.next ≡ n + 1) where
    pub object_rises : RiseBetween 0 (map (λ (e : Numbering Topic). e.number) new.objects.entries) new.objects.next
    object_rises = subst (λ m. RiseBetween 0 (map (λ (e : Numbering Topic). e.number) new.objects.entries) m) (sym next) (subst (λ es. RiseBetween 0 (map (λ (e : Numbering Topic). e.number) es) (n + 1)) (sym objects) (rise_push 0 old.objects.next n s old.objects.entries above whole.placed.objects_rise))

    pub object_here : topic_at (FoundObject n) new ≡ Some s
    object_here = ap (value_under n) objects ∙ push_here n old.objects.next s old.objects.entries above whole.placed.objects_rise

    pub object_fresh : topic_at (FoundObject n) old ≡ None
    object_fresh = under_none n 0 old.objects.next old.objects.entries above whole.placed.objects_rise

    pub object_elsewhere : new.directories.entries ≡ old.directories.entries → (f : Found) → (f ≡ FoundObject n → ⊥) → topic_at f new ≡ topic_at f old
    object_elsewhere same (FoundObject m) other = ap (value_under m) objects ∙ push_elsewhere m n s old.objects.entries (λ is. other (ap FoundObject is)) (value_under m old.objects.entries) refl
    object_elsewhere same (FoundDirectory m) other = ap (value_under m) same

  module _ (above : old.directories.next ≤ n) (directories : new.directories.entries ≡ old.directories.entries ++ record { number = n; value = s } ∷ []) (next : new.directories.next ≡ n + 1) where
    pub directory_rises : RiseBetween 0 (map (λ (e : Numbering Topic). e.number) new.directories.entries) new.directories.next
    directory_rises = subst (λ m. RiseBetween 0 (map (λ (e : Numbering Topic). e.number) new.directories.entries) m) (sym next) (subst (λ es. RiseBetween 0 (map (λ (e : Numbering Topic). e.number) es) (n + 1)) (sym directories) (rise_push 0 old.directories.next n s old.directories.entries above whole.placed.directories_rise))

    pub directory_here : topic_at (FoundDirectory n) new ≡ Some s
    directory_here = ap (value_under n) directories ∙ push_here n old.directories.next s old.directories.entries above whole.placed.directories_rise

    pub directory_fresh : topic_at (FoundDirectory n) old ≡ None
    directory_fresh = under_none n 0 old.directories.next old.directories.entries above whole.placed.directories_rise

    pub directory_elsewhere : new.objects.entries ≡ old.objects.entries → (f : Found) → (f ≡ FoundDirectory n → ⊥) → topic_at f new ≡ topic_at f old
    directory_elsewhere same (FoundDirectory m) other = ap (value_under m) directories ∙ push_elsewhere m n s old.directories.entries (λ is. other (ap FoundDirectory is)) (value_under m old.directories.entries) refl
    directory_elsewhere same (FoundObject m) other = ap (value_under m) same

-- whichever it is
module _ (old new : Whole) (whole : IsWhole old) (f : Found) (rows : new.rows.entries ≡ old.rows.entries) (next : new.rows.next ≡ old.rows.next) (elsewhere : (g : Found) → (g ≡ f → ⊥) → topic_at g new ≡ topic_at g old) (bare : handles_at f new ≡ handles_at f old)
    (objects_rise : RiseBetween 0 (map (λ (e : Numbering Topic). e.number) new.objects.entries) new.objects.next) (directories_rise : RiseBetween 0 (map (λ (e : Numbering Topic). e.number) new.directories.entries) new.directories.next) where
  bare_at : (g : Found) → handles_at g new ≡ handles_at g old
  bare_at g = by (found_cases g f)
    where
      by : (g ≡ f) ⊎ (g ≡ f → ⊥) → handles_at g new ≡ handles_at g old
      by (inl here) = subst (λ g. handles_at g new ≡ handles_at g old) (sym here) bare
      by (inr other) = ap handles_in_place (elsewhere g other)

  pub bare_handles : handles_in new ≡ handles_in old
  bare_handles = ap (λ es. filter_map (handle_of_row new) es) rows ∙ same_filter (λ f. handles_at f old) (λ f. handles_at f new) old.rows.entries bare_at

  pub bare_whole : ((s : Topic) → topic_at f new ≡ Some s → target_of s ≡ f) → ((s : Topic) → topic_at f new ≡ Some s → HoldsWhatIsOwed s) → IsWhole new
  bare_whole on exact = record {
    rowed = subst (λ m. AreRowed (λ f. handles_at f new) new.rows.entries m) (sym next) (subst (λ es. AreRowed (λ f. handles_at f new) es old.rows.next) (sym rows)
        (same_rowed (λ f. handles_at f old) (λ f. handles_at f new) old.rows.entries old.rows.next bare_at whole.rowed));
    placed = record {
      objects_rise = objects_rise;
      directories_rise = directories_rise;
      on = λ g s at. by g s at (found_cases g f);
      exact = λ g s at. held g s at (found_cases g f);
    };
  }
    where
      held : (g : Found) (s : Topic) → topic_at g new ≡ Some s → (g ≡ f) ⊎ (g ≡ f → ⊥) → HoldsWhatIsOwed s
      held g s at (inl here) = exact s (subst (λ g. topic_at g new ≡ Some s) here at)
      held g s at (inr other) = whole.placed.exact g s (sym (elsewhere g other) ∙ at)

      by : (g : Found) (s : Topic) → topic_at g new ≡ Some s → (g ≡ f) ⊎ (g ≡ f → ⊥) → target_of s ≡ g
      by g s at (inl here) = on s (subst (λ g. topic_at g new ≡ Some s) here at) ∙ sym here
      by g s at (inr other) = whole.placed.on g s (sym (elsewhere g other) ∙ at)

  -- a place that came
  pub come_places : topic_at f old ≡ None → KeepsPlaces old new
  come_places none g = by (found_cases g f)
    where
      by : (g ≡ f) ⊎ (g ≡ f → ⊥) → room_at g old ≤ room_at g new
      by (inl here) = subst (λ g. room_at g old ≤ room_at g new) (sym here) (let e : room_at f old ≡ 0 = ap (λ o. option_map_or places_for o 0) none in omega arith)
      by (inr other) = let e : room_at g new ≡ room_at g old = ap (λ o. option_map_or places_for o 0) (elsewhere g other) in omega arith

  -- where nobody is, no record needs room
  pub bare_records : handles_at f old ≡ [] → KeepsRecords old new
  bare_records none es room g s at = by (found_cases g f)
    where
      by : (g ≡ f) ⊎ (g ≡ f → ⊥) → HasRoomAt es g s
      by (inl here) = λ some told. absurd (let e : handles_of s ≡ [] = ap handles_in_place (sym at) ∙ subst (λ g. handles_at g new ≡ []) (sym here) (bare ∙ none) in omega (arith, ap length e))
      by (inr other) = room g s (sym (elsewhere g other) ∙ at)

-- ---- a place comes

-- without handles no records are to be held
pub bare_exact : (s : Topic) → handles_of s ≡ [] → kept_of s ≡ [] → HoldsWhatIsOwed s
bare_exact s bare empty = empty ∙ sym (ap (longest_rest (is_directory (target_of s)) (number_of (target_of s))) bare)

pub record IsAdded (f : Found) (s : Topic) (old new : Whole) : Type 0 where
  pub whole : IsWhole new
  pub handles : handles_in new ≡ handles_in old
  pub here : topic_at f new ≡ Some s
  pub others : (g : Found) → (g ≡ f → ⊥) → topic_at g new ≡ topic_at g old
  pub places : KeepsPlaces old new
  pub records : KeepsRecords old new

added : (old new : Whole) (whole : IsWhole old) (f : Found) (s : Topic) → handles_of s ≡ [] → kept_of s ≡ [] → target_of s ≡ f → new.rows ≡ old.rows → topic_at f old ≡ None → topic_at f new ≡ Some s
    → ((g : Found) → (g ≡ f → ⊥) → topic_at g new ≡ topic_at g old) → RiseBetween 0 (map (λ (e : Numbering Topic). e.number) new.objects.entries) new.objects.next → RiseBetween 0 (map (λ (e : Numbering Topic). e.number) new.directories.entries) new.directories.next → IsAdded f s old new
added old new whole f s bare empty target rows fresh here elsewhere objects_rise directories_rise =
    let next : new.rows.next ≡ old.rows.next = ap (λ (t : Numbered Found). t.next) rows in
    let entries : new.rows.entries ≡ old.rows.entries = ap (λ (t : Numbered Found). t.entries) rows in
    let none : handles_at f old ≡ [] = ap handles_in_place fresh in
    let nobody : handles_at f new ≡ handles_at f old = ap handles_in_place here ∙ bare ∙ sym none in
    record {
      whole = bare_whole old new whole f entries next elsewhere nobody objects_rise directories_rise (λ t at. ap target_of (some_is t s (sym at ∙ here)) ∙ target)
          (λ t at. subst HoldsWhatIsOwed (some_is s t (sym here ∙ at)) (bare_exact s bare empty));
      handles = bare_handles old new whole f entries next elsewhere nobody objects_rise directories_rise;
      here = here;
      others = elsewhere;
      places = come_places old new whole f entries next elsewhere nobody objects_rise directories_rise fresh;
      records = bare_records old new whole f entries next elsewhere nobody objects_rise directories_rise none;
    }

module _ (rows : Numbered Found) (objects directories : Numbered Topic) (whole : IsWhole (record { rows = rows; objects = objects; directories = directories })) (n m : ℕ) (same : m ≡ n) (s : Topic) (bare : handles_of s ≡ []) (empty : kept_of s ≡ []) (more : Numbered Topic) where
  pub added_object : objects.next ≤ n → target_of s ≡ FoundObject n → more.entries ≡ objects.entries ++ record { number = m; value = s } ∷ [] → more.next ≡ m + 1
      → IsAdded (FoundObject n) s (record { rows = rows; objects = objects; directories = directories }) (record { rows = rows; objects = more; directories = directories })
  added_object above target entries next =
      let old : Whole = record { rows = rows; objects = objects; directories = directories } in
      let new : Whole = record { rows = rows; objects = more; directories = directories } in
      let are : more.entries ≡ objects.entries ++ record { number = n; value = s } ∷ [] = entries ∙ ap (λ k. objects.entries ++ record { number = k; value = s } ∷ []) same in
      let goes : more.next ≡ n + 1 = next ∙ ap (λ k. k + 1) same in
      added old new whole (FoundObject n) s bare empty target refl (object_fresh old new whole n s above are goes) (object_here old new whole n s above are goes) (object_elsewhere old new whole n s above are goes refl) (object_rises old new whole n s above are goes) whole.placed.directories_rise

  pub added_directory : directories.next ≤ n → target_of s ≡ FoundDirectory n → more.entries ≡ directories.entries ++ record { number = m; value = s } ∷ [] → more.next ≡ m + 1
      → IsAdded (FoundDirectory n) s (record { rows = rows; objects = objects; directories = directories }) (record { rows = rows; objects = objects; directories = more })
  added_directory above target entries next =
      let old : Whole = record { rows = rows; objects = objects; directories = directories } in
      let new : Whole = record { rows = rows; objects = objects; directories = more } in
      let are : more.entries ≡ directories.entries ++ record { number = n; value = s } ∷ [] = entries ∙ ap (λ k. directories.entries ++ record { number = k; value = s } ∷ []) same in
      let goes : more.next ≡ n + 1 = next ∙ ap (λ k. k + 1) same in
      added old new whole (FoundDirectory n) s bare empty target refl (directory_fresh old new whole n s above are goes) (directory_here old new whole n s above are goes) (directory_elsewhere old new whole n s above are goes refl) whole.placed.objects_rise (directory_rises old new whole n s above are goes)

-- a new object comes
pub added_fresh : (rows : Numbered Found) (objects directories : Numbered Topic) → IsWhole (record { rows = rows; objects = objects; directories = directories }) → (x : Fresh) (n m : ℕ) (s : Topic) → record { object = n; site = site_of s } ≡ x → IsFresh n s → m ≡ n → (more : Numbered Topic)
    → objects.next ≤ x.object → more.entries ≡ objects.entries ++ record { number = m; value = s } ∷ [] → more.next ≡ m + 1
    → IsAdded (FoundObject x.object) s (record { rows = rows; objects = objects; directories = directories }) (record { rows = rows; objects = more; directories = directories })
added_fresh rows objects directories whole x n m s is fresh same more above entries next =
    let at : n ≡ x.object = ap (λ (y : Fresh). y.object) is in
    added_object rows objects directories whole x.object m (same ∙ at) s fresh.bare fresh.empty more above (fresh.on ∙ ap FoundObject at) entries next
