-- All handles, where those of one place are others.
use Rattle.std.proofs.Common.{◌≡◌, ◌<◌, ◌≤◌, ℕ, ◌+◌, Bool, true, false, cond, eqb, eqb-true, List, [], ◌∷◌, ◌++◌, length, Option, Some, None, refl, sym, ap, ◌∙◌, subst, arith, ◌⊎◌, inl, inr}
use Rattle.std.specs.Prelude.{find, filter, is_some, IfSome, option_map, option_and_then}
use Rattle.std.specs.Option.{option_map_or}
use Rattle.std.specs.List.{AllByRecursion, filter_map}
use Rattle.pps_types.specs.declared.found.Found.{Found}
use Rattle.pps_types.specs.declared.found.Found.TheVariants.{Object as FoundObject, Directory as FoundDirectory}
use Rattle.pps_types.specs.declared.handle_kind.HandleKind.{HandleKind}
use Rattle.pps_types.specs.Reading.{OpenHandle, reseen, style}
use Rattle.pps_types.specs.Rests.{Progress}
use Rattle.pps_types.specs.Plan.{on_numbered, without_number, first_seen}
use Rattle.pps_types.specs.Owed.{longest_rest}
use Rattle.number_table.specs.Numbered.{Entry as Numbering, Numbered, has_number, value_under, without_first}
use Rattle.sub_reader.specs.Opened.{handle_at, is_directory, number_of, as_opened, suits, opened as opened_as}
use Rattle.sub_reader.specs.declared.opening.Opening.{Opening}
use Rattle.sub_reader.specs.HandlesOf.{AreOn}
use Rattle.topics.specs.declared.topic.Topic.{Topic}
use Rattle.topics.specs.HandlesOf.{target_of, handles_of, places_of as places_for, name_of, kept_of, is_service, Suits, IsSameTarget, KeepsRoom}
use Rattle.open_handles.specs.declared.change.Change.{Change}
use Rattle.open_handles.specs.declared.change.Change.TheVariants.{CatchUp, Pass, Park, Arm}
use Rattle.open_handles.specs.declared.places.Places.{Places}
use Rattle.open_handles.specs.Whole.{IsRight, Whole, IsWhole, AreRowed, row_handle, place_at, with_place, handles_on, handles_in, handles_in_place, name_at, Site, site_of, KeepsSites, KeepsTable, KeepsPlaces, KeepsRecords, HasRoomAt, is_on, changed as changed_by}
use Rattle.open_handles.proofs.Finds.{some_is, found_cases, NoneNumbered, none_found, change_none, without_none}
use Rattle.open_handles.proofs.Rows.{found_in, changed, changed_rowed, closed, closed_rowed}
use Rattle.open_handles.proofs.Comes.{opened, opened_rowed, below_at}
use Rattle.open_handles.proofs.Meets.{those_on, longest_on}
use Rattle.open_handles.proofs.Standing.{with_found, with_other, with_placed, with_handles, old_handles, with_elsewhere, with_handles_on}
use Rattle.open_handles.proofs.Wholes.{bare_handles, bare_whole}

abbrev pub whole_of : Numbered Found → Places → Whole
whole_of rows p = record { rows = rows; objects = p.objects; directories = p.directories }

-- ---- where a row is, its handle is

row_found : (on : Found → List (OpenHandle Progress)) (n : ℕ) (f : Found) (es : List (Numbering Found)) → AllByRecursion (λ (e : Numbering Found). is_some (row_handle on e) ≡ true) es → value_under n es ≡ Some f → is_some (handle_at n (on f)) ≡ true
row_found on n f [] each under = absurd (let bad = under in cc)
row_found on n f (e ∷ es) each under = by (eqb e.number n) refl under (row_found on n f es each.1)
  where
    by : (b : Bool) → eqb e.number n ≡ b → option_map (λ (e : Numbering Found). e.value) (cond b (Some e) (find (has_number n) es)) ≡ Some f → (value_under n es ≡ Some f → is_some (handle_at n (on f)) ≡ true) → is_some (handle_at n (on f)) ≡ true
    by true same is rest = (λ i. is_some (handle_at (sym (eqb-true e.number n same) i) (on (sym (some_is e.value f is) i)))) ∙ each.0
    by false same is rest = rest is

module _ (rows : Numbered Found) (p : Places) (whole : IsWhole (whole_of rows p)) where
  pub not_gone : (n : ℕ) (f : Found) → value_under n rows.entries ≡ Some f → place_at f p ≡ None → ⊥
  not_gone n f under none =
      let some : is_some (handle_at n (handles_on p f)) ≡ true = row_found (handles_on p) n f rows.entries whole.rowed.each under in
      let bad : false ≡ true = ap (λ o. is_some (handle_at n (handles_in_place o))) (sym none) ∙ some in cc

  -- the handle of a row
  pub at_row : (n : ℕ) → handle_at n (handles_in (whole_of rows p)) ≡ option_and_then (λ f. handle_at n (handles_on p f)) (value_under n rows.entries)
  at_row n = found_in (handles_on p) n rows.entries whole.rowed.each

  pub in_place : (n : ℕ) (f : Found) (o : Option Topic) → value_under n rows.entries ≡ Some f → o ≡ place_at f p → handle_at n (handles_in (whole_of rows p)) ≡ option_and_then (λ (s : Topic). handle_at n (handles_of s)) o
  in_place n f o under at = at_row n ∙ ap (option_and_then (λ f. handle_at n (handles_on p f))) under ∙ ap (λ o. handle_at n (handles_in_place o)) (sym at) ∙ by o
    where
      by : (o : Option Topic) → handle_at n (handles_in_place o) ≡ option_and_then (λ (s : Topic). handle_at n (handles_of s)) o
      by None = refl
      by (Some s) = refl

  pub in_no_place : (n : ℕ) → value_under n rows.entries ≡ None → handle_at n (handles_in (whole_of rows p)) ≡ None
  in_no_place n none = at_row n ∙ ap (option_and_then (λ f. handle_at n (handles_on p f))) none

  no_handle : (n : ℕ) → value_under n rows.entries ≡ None → NoneNumbered n (handles_in (whole_of rows p))
  no_handle n none = none_found n (handles_in (whole_of rows p)) (at_row n ∙ ap (option_and_then (λ f. handle_at n (handles_on p f))) none)

  pub change_absent : (n : ℕ) (change : OpenHandle Progress → OpenHandle Progress) → value_under n rows.entries ≡ None → handles_in (whole_of rows p) ≡ on_numbered n change (handles_in (whole_of rows p))
  change_absent n change none = sym (change_none n change (handles_in (whole_of rows p)) (no_handle n none))

  pub close_absent : (n : ℕ) → value_under n rows.entries ≡ None → handles_in (whole_of rows p) ≡ without_number n (handles_in (whole_of rows p))
  close_absent n none = sym (without_none n (handles_in (whole_of rows p)) (no_handle n none))

-- ---- one place

keeps_objects : (p : Places) (f : Found) (t : Topic) → KeepsTable p.objects (with_place p f t).objects
keeps_objects p (FoundObject n) t = record { next = refl; room = omega arith }
keeps_objects p (FoundDirectory n) t = record { next = refl; room = omega arith }

keeps_directories : (p : Places) (f : Found) (t : Topic) → KeepsTable p.directories (with_place p f t).directories
keeps_directories p (FoundObject n) t = record { next = refl; room = omega arith }
keeps_directories p (FoundDirectory n) t = record { next = refl; room = omega arith }

module _ (p : Places) (f : Found) (s t : Topic) (found : place_at f p ≡ Some s) (same : IsSameTarget s t) where
  pub turn_sites : (rows more : Numbered Found) → KeepsSites (whole_of rows p) (whole_of more (with_place p f t))
  turn_sites rows more = record { sites = λ g. by g (found_cases g f); objects = keeps_objects p f t; directories = keeps_directories p f t }
    where
      here : option_map site_of (place_at f (with_place p f t)) ≡ option_map site_of (place_at f p)
      here = ap (option_map site_of) (with_found p f s t found) ∙ (λ i. Some (record { name = same.name i; service = same.service i })) ∙ sym (ap (option_map site_of) found)

      by : (g : Found) → (g ≡ f) ⊎ (g ≡ f → ⊥) → option_map site_of (place_at g (with_place p f t)) ≡ option_map site_of (place_at g p)
      by g (inl is) = subst (λ g. option_map site_of (place_at g (with_place p f t)) ≡ option_map site_of (place_at g p)) (sym is) here
      by g (inr other) = ap (option_map site_of) (with_other p g f t other)

  pub turn_places : places_for s ≤ places_for t → (rows more : Numbered Found) → KeepsPlaces (whole_of rows p) (whole_of more (with_place p f t))
  turn_places le rows more g = by (found_cases g f)
    where
      by : (g ≡ f) ⊎ (g ≡ f → ⊥) → option_map_or places_for (place_at g p) 0 ≤ option_map_or places_for (place_at g (with_place p f t)) 0
      by (inl is) = subst (λ g. option_map_or places_for (place_at g p) 0 ≤ option_map_or places_for (place_at g (with_place p f t)) 0) (sym is)
          (let a : option_map_or places_for (place_at f p) 0 ≡ places_for s = ap (λ o. option_map_or places_for o 0) found in let b : option_map_or places_for (place_at f (with_place p f t)) 0 ≡ places_for t = ap (λ o. option_map_or places_for o 0) (with_found p f s t found) in omega arith)
      by (inr other) = let e : option_map_or places_for (place_at g (with_place p f t)) 0 ≡ option_map_or places_for (place_at g p) 0 = ap (λ o. option_map_or places_for o 0) (with_other p g f t other) in omega arith

  pub turn_records : KeepsRoom s t → (0 < length (handles_of t) → 0 < length (handles_of s)) → (rows more : Numbered Found) → KeepsRecords (whole_of rows p) (whole_of more (with_place p f t))
  turn_records keeps some rows more es room g u at = by (found_cases g f)
    where
      by : (g ≡ f) ⊎ (g ≡ f → ⊥) → HasRoomAt es g u
      by (inl is) = subst (HasRoomAt es g) (some_is t u (sym (with_found p f s t found) ∙ subst (λ g. place_at g (with_place p f t) ≡ Some u) is at))
          (λ there told. keeps _ (room g s (subst (λ g. place_at g p ≡ Some s) (sym is) found) (some there) told))
      by (inr other) = room g u (sym (with_other p g f t other) ∙ at)

module _ (rows : Numbered Found) (p : Places) (whole : IsWhole (whole_of rows p)) (f : Found) (s t : Topic) (found : place_at f p ≡ Some s) (same : IsSameTarget s t)
    (right : IsRight t) where
  then_on : (g : Found) → AreOn (is_directory g) (number_of g) (handles_on (with_place p f t) g)
  then_on = with_handles_on p f s t whole.placed found same.target right whole.rowed.on_topic

  elsewhere : (g : Found) → (g ≡ f → ⊥) → handles_on (with_place p f t) g ≡ handles_on p g
  elsewhere = with_elsewhere p f s t whole.placed found same.target

  here : handles_on (with_place p f t) f ≡ handles_of t
  here = with_handles p f s t whole.placed found same.target

  before : handles_on p f ≡ handles_of s
  before = old_handles p f s t whole.placed found same.target

  -- ---- the same handles

  module _ (more : Numbered Found) (entries : more.entries ≡ rows.entries) (next : more.next ≡ rows.next) (is : handles_of t ≡ handles_of s) where
    pub same_turned : handles_in (whole_of more (with_place p f t)) ≡ handles_in (whole_of rows p)
    same_turned =
        let placed = with_placed p f s t whole.placed found same.target right.exact in
        bare_handles (whole_of rows p) (whole_of more (with_place p f t)) whole f entries next (λ g other. with_other p g f t other) (here ∙ is ∙ sym before) placed.objects_rise placed.directories_rise

    pub same_turned_whole : IsWhole (whole_of more (with_place p f t))
    same_turned_whole =
        let placed = with_placed p f s t whole.placed found same.target right.exact in
        bare_whole (whole_of rows p) (whole_of more (with_place p f t)) whole f entries next (λ g other. with_other p g f t other) (here ∙ is ∙ sym before) placed.objects_rise placed.directories_rise (placed.on f) (placed.exact f)

  -- ---- one handle changes

  module _ (n : ℕ) (under : value_under n rows.entries ≡ Some f) where
    module _ (change : OpenHandle Progress → OpenHandle Progress) (keeps : (h : OpenHandle Progress) → (change h).number ≡ h.number) (is : handles_of t ≡ on_numbered n change (handles_of s)) where
      is_changed : handles_on (with_place p f t) f ≡ on_numbered n change (handles_on p f)
      is_changed = here ∙ is ∙ ap (on_numbered n change) (sym before)

      pub turned : handles_in (whole_of rows (with_place p f t)) ≡ on_numbered n change (handles_in (whole_of rows p))
      turned = changed (handles_on p) (handles_on (with_place p f t)) rows.entries rows.next whole.rowed n f under elsewhere change keeps is_changed

      pub turned_whole : IsWhole (whole_of rows (with_place p f t))
      turned_whole = record {
        rowed = changed_rowed (handles_on p) (handles_on (with_place p f t)) rows.entries rows.next whole.rowed n f under elsewhere change keeps is_changed then_on;
        placed = with_placed p f s t whole.placed found same.target right.exact;
      }

    -- ---- one handle leaves

    module _ (is : handles_of t ≡ without_number n (handles_of s)) (more : Numbered Found) (entries : more.entries ≡ without_first (has_number n) rows.entries) (next : more.next ≡ rows.next) where
      is_closed : handles_on (with_place p f t) f ≡ without_number n (handles_on p f)
      is_closed = here ∙ is ∙ ap (without_number n) (sym before)

      pub left : handles_in (whole_of more (with_place p f t)) ≡ without_number n (handles_in (whole_of rows p))
      left = ap (filter_map (row_handle (handles_on (with_place p f t)))) entries ∙ closed (handles_on p) (handles_on (with_place p f t)) rows.entries rows.next whole.rowed n f under elsewhere is_closed

      pub left_whole : IsWhole (whole_of more (with_place p f t))
      left_whole = record {
        rowed = subst (λ m. AreRowed (handles_on (with_place p f t)) more.entries m) (sym next) (subst (λ es. AreRowed (handles_on (with_place p f t)) es rows.next) (sym entries)
            (closed_rowed (handles_on p) (handles_on (with_place p f t)) rows.entries rows.next whole.rowed n f under elsewhere is_closed then_on));
        placed = with_placed p f s t whole.placed found same.target right.exact;
      }

  -- ---- one handle comes

  module _ (n m : ℕ) (is_n : m ≡ n) (above : rows.next ≤ n) (h : OpenHandle Progress) (numbered : h.number ≡ n) (is : handles_of t ≡ handles_of s ++ h ∷ []) (more : Numbered Found) (entries : more.entries ≡ rows.entries ++ record { number = m; value = f } ∷ []) (next : more.next ≡ m + 1) where
    is_opened : handles_on (with_place p f t) f ≡ handles_on p f ++ h ∷ []
    is_opened = here ∙ is ∙ ap (λ hs. hs ++ h ∷ []) (sym before)

    are : more.entries ≡ rows.entries ++ record { number = n; value = f } ∷ []
    are = entries ∙ ap (λ k. rows.entries ++ record { number = k; value = f } ∷ []) is_n

    pub come : handles_in (whole_of more (with_place p f t)) ≡ handles_in (whole_of rows p) ++ h ∷ []
    come = ap (filter_map (row_handle (handles_on (with_place p f t)))) are ∙ opened (handles_on p) (handles_on (with_place p f t)) rows.entries rows.next whole.rowed n f above elsewhere h numbered is_opened

    pub come_whole : IsWhole (whole_of more (with_place p f t))
    come_whole = record {
      rowed = subst (λ k. AreRowed (handles_on (with_place p f t)) more.entries k) (sym (next ∙ ap (λ k. k + 1) is_n)) (subst (λ es. AreRowed (handles_on (with_place p f t)) es (n + 1)) (sym are)
          (opened_rowed (handles_on p) (handles_on (with_place p f t)) rows.entries rows.next whole.rowed n f above elsewhere h numbered is_opened then_on));
      placed = with_placed p f s t whole.placed found same.target right.exact;
    }

-- all in a place are lower than a number that comes
pub below_new : (rows : Numbered Found) (p : Places) (whole : IsWhole (whole_of rows p)) (f : Found) (s : Topic) → place_at f p ≡ Some s → (n : ℕ) → rows.next ≤ n → AllByRecursion (λ (h : OpenHandle Progress). h.number < n) (handles_of s)
below_new rows p whole f s found n above = subst (AllByRecursion (λ (h : OpenHandle Progress). h.number < n)) (ap handles_in_place found) (below_at (handles_on p) rows.entries rows.next whole.rowed n above f)

-- ---- what changes of a handle

pub keeps_number : (x : Change) (h : OpenHandle Progress) → (changed_by x h).number ≡ h.number
keeps_number CatchUp h = refl
keeps_number (Pass count) h = refl
keeps_number (Park size) h = refl
keeps_number (Arm pulse) h = refl

-- ---- a place with room for one more

pub room_there : (p : Places) (f : Found) (s t : Topic) → place_at f p ≡ Some s → option_map_or places_for (place_at f (with_place p f t)) 0 ≡ places_for t
room_there p f s t found = ap (λ o. option_map_or places_for o 0) (with_found p f s t found)

pub room_before : (p : Places) (f : Found) (s : Topic) → place_at f p ≡ Some s → option_map_or places_for (place_at f p) 0 ≡ places_for s
room_before p f s found = ap (λ o. option_map_or places_for o 0) found

-- ---- what an open needs to know of its place

pub suits_there : (p : Places) (f : Found) (s : Topic) (kind : HandleKind) → place_at f p ≡ Some s → target_of s ≡ f → IfSome (option_map site_of (place_at f p)) (λ (x : Site). suits kind (is_directory f) x.service ≡ true) → Suits kind s
suits_there p f s kind found target is =
    subst (λ g. suits kind (is_directory g) (is_service s) ≡ true) (sym target)
    (subst (λ o. IfSome (option_map site_of o) (λ (x : Site). suits kind (is_directory f) x.service ≡ true)) found is)

abbrev pub first_handle : ℕ → List ℕ → Opening → OpenHandle Progress
first_handle target name o = reseen (λ h. first_seen h (style h.kind)) (opened_as target name o)

pub same_first : (rows : Numbered Found) (p : Places) (f : Found) (s : Topic) (o : Opening) → place_at f p ≡ Some s → target_of s ≡ f → first_handle (number_of (target_of s)) (name_of s) o ≡ first_handle (number_of f) (name_at f (whole_of rows p)) o
same_first rows p f s o found target = (λ i. first_handle (number_of (target i)) (option_map_or (λ (x : Site). x.name) (option_map site_of (sym found i)) []) o)

-- ---- what is said of one place

module _ (rows : Numbered Found) (p : Places) (whole : IsWhole (whole_of rows p)) (f : Found) where
  pub on_it : filter (is_on f) (handles_in (whole_of rows p)) ≡ handles_on p f
  on_it = those_on (handles_on p) rows.entries rows.next whole.rowed f

  pub exact_here : option_map_or kept_of (place_at f p) [] ≡ longest_rest (is_directory f) (number_of f) (handles_in (whole_of rows p))
  exact_here = by (place_at f p) refl ∙ sym (longest_on f (handles_in (whole_of rows p)) ∙ ap (longest_rest (is_directory f) (number_of f)) on_it)
    where
      by : (o : Option Topic) → place_at f p ≡ o → option_map_or kept_of (place_at f p) [] ≡ longest_rest (is_directory f) (number_of f) (handles_on p f)
      by None at = ap (λ o. option_map_or kept_of o []) at ∙ ap (λ o. longest_rest (is_directory f) (number_of f) (handles_in_place o)) (sym at)
      by (Some s) at =
          let on : target_of s ≡ f = whole.placed.on f s at in
          ap (λ o. option_map_or kept_of o []) at ∙ whole.placed.exact f s at ∙ (λ i. longest_rest (is_directory (on i)) (number_of (on i)) (handles_in_place (sym at i)))

pub opening_here : (rows : Numbered Found) (p : Places) (whole : IsWhole (whole_of rows p)) (n : ℕ) (f : Found) (s : Topic) (o : Option Opening) → value_under n rows.entries ≡ Some f → place_at f p ≡ Some s
    → option_map (opened_as (number_of (target_of s)) (name_of s)) o ≡ option_map as_opened (handle_at n (handles_of s))
    → option_map (opened_as (number_of f) (name_at f (whole_of rows p))) o ≡ option_map as_opened (handle_at n (handles_in (whole_of rows p)))
opening_here rows p whole n f s o under found is =
    let target : target_of s ≡ f = whole.placed.on f s found in
    sym (λ i. option_map (opened_as (number_of (target i)) (option_map_or (λ (x : Site). x.name) (option_map site_of (sym found i)) [])) o)
    ∙ is ∙ sym (ap (option_map as_opened) (in_place rows p whole n f (Some s) under (sym found)))
