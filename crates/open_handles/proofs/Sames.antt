-- Whether the same handles are open: where the rows are the same, and the handles on each object and directory.
use Rattle.std.proofs.Common.{◌≡◌, ◌≤◌, ℕ, ◌+◌, ◌&&◌, Bool, true, false, cond, eqb, eqb-true, eq-eqb, ne_eqb, List, [], ◌∷◌, map, Option, Some, None, refl, sym, ap, ◌∙◌, subst, arith}
use Rattle.std.specs.Prelude.{find, filter, is_some, option_map}
use Rattle.std.specs.List.{AllByRecursion, filter_map, cons_option}
use Rattle.std.specs.Cmp.Lexicographic.{pointwise}
use Rattle.pps_types.specs.declared.found.Found.{Found}
use Rattle.pps_types.specs.contracts.found.FoundPartialEq.TheImpl.{eq-value}
use Rattle.pps_types.specs.declared.found.Found.TheVariants.{Object as FoundObject, Directory as FoundDirectory}
use Rattle.pps_types.specs.Reading.{OpenHandle, is_directory_kind}
use Rattle.pps_types.specs.Rests.{Progress}
use Rattle.pps_types.specs.WellFormed.{RiseBetween}
use Rattle.service_laws.proofs.Finds.{all-imp, all-find, and-both}
use Rattle.service_laws.proofs.Rising.{rising-above}
use Rattle.number_table.specs.Numbered.{Entry as Numbering, Numbered, value_under, has_number, is_same, is_same_entry}
use Rattle.sub_reader.specs.Opened.{handle_at, is_directory, number_of}
use Rattle.sub_reader.specs.HandlesOf.{IsOn, AreOn}
use Rattle.topics.specs.declared.topic.Topic.{Topic}
use Rattle.topics.specs.HandlesOf.{target_of}
use Rattle.open_handles.specs.declared.places.Places.{Places}
use Rattle.open_handles.specs.Whole.{IsWhole, place_at, handles_on, handles_in, handles_in_place, row_handle, is_on, HasSame}
use Rattle.open_handles.proofs.Finds.{at_number}
use Rattle.open_handles.proofs.Turns.{whole_of, on_it}

-- ---- values under their numbers

value_all : {T : Type 0} (P : T → Type 0) (n : ℕ) (es : List (Numbering T)) (x : T) → AllByRecursion P (map (λ (e : Numbering T). e.value) es) → value_under n es ≡ Some x → P x
value_all P n [] x all at = absurd (let no = at in cc)
value_all {T} P n (e ∷ es) x all at = by (eqb e.number n) at (value_all P n es x all.1)
  where
    by : (b : Bool) → option_map (λ (e : Numbering T). e.value) (cond b (Some e) (find (has_number n) es)) ≡ Some x → (value_under n es ≡ Some x → P x) → P x
    by true at rest = let is : e.value ≡ x = cc in subst P is all.0
    by false at rest = rest at

-- where numbers rise, each value is found under its own
module _ {T : Type 0} where
  number_in : Numbering T → ℕ
  number_in e = e.number

  passed : (x e : Numbering T) (es : List (Numbering T)) → x.number + 1 ≤ e.number → value_under e.number es ≡ Some e.value → value_under e.number (x ∷ es) ≡ Some e.value
  passed x e es above at = ap (λ b. option_map (λ (e : Numbering T). e.value) (cond b (Some x) (find (has_number e.number) es))) (ne_eqb x.number e.number (λ same. omega arith)) ∙ at

  own_values : (low high : ℕ) (es : List (Numbering T)) → RiseBetween low (map (λ (e : Numbering T). e.number) es) high → AllByRecursion (λ (e : Numbering T). value_under e.number es ≡ Some e.value) es
  own_values low high [] r = tt
  own_values low high (e ∷ es) r = (
    ap (λ b. option_map (λ (e : Numbering T). e.value) (cond b (Some e) (find (has_number e.number) es))) (eq-eqb e.number e.number refl),
    behind es (rising-above (λ (e : Numbering T). e.number) (e.number + 1) high es r.1) (own_values (e.number + 1) high es r.1),
  )
    where
      behind : (xs : List (Numbering T)) → AllByRecursion (λ (x : Numbering T). e.number + 1 ≤ x.number) xs → AllByRecursion (λ (x : Numbering T). value_under x.number es ≡ Some x.value) xs → AllByRecursion (λ (x : Numbering T). value_under x.number (e ∷ es) ≡ Some x.value) xs
      behind [] above at = tt
      behind (x ∷ xs) above at = (passed e x es above.0 at.0, behind xs above.1 at.1)

-- ---- rows that are compared

found_told : (f g : Found) → eq-value.it f g ≡ true → f ≡ g
found_told (FoundObject m) (FoundObject n) same = ap FoundObject (eqb-true m n same)
found_told (FoundObject m) (FoundDirectory n) same = absurd cc
found_told (FoundDirectory m) (FoundObject n) same = absurd cc
found_told (FoundDirectory m) (FoundDirectory n) same = ap FoundDirectory (eqb-true m n same)

found_itself : (f : Found) → eq-value.it f f ≡ true
found_itself (FoundObject n) = eq-eqb n n refl
found_itself (FoundDirectory n) = eq-eqb n n refl

rows_told : (xs ys : List (Numbering Found)) → pointwise (is_same_entry eq-value.it) xs ys ≡ true → xs ≡ ys
rows_told [] [] same = refl
rows_told [] (y ∷ ys) same = absurd cc
rows_told (x ∷ xs) [] same = absurd cc
rows_told (x ∷ xs) (y ∷ ys) same =
    let both = and-both (is_same_entry eq-value.it x y) (pointwise (is_same_entry eq-value.it) xs ys) same in
    let row = and-both (eqb x.number y.number) (eq-value.it x.value y.value) both.0 in
    let number = eqb-true x.number y.number row.0 in
    let value = found_told x.value y.value row.1 in
    let rest = rows_told xs ys both.1 in
    λ i. record { number = number i; value = value i } ∷ rest i

rows_themselves : (xs : List (Numbering Found)) → pointwise (is_same_entry eq-value.it) xs xs ≡ true
rows_themselves [] = refl
rows_themselves (x ∷ xs) = rw (eq-eqb x.number x.number refl, found_itself x.value, rows_themselves xs) refl

pub same_told : (rows more : Numbered Found) → is_same eq-value.it rows more ≡ true → (rows.entries ≡ more.entries) × (rows.next ≡ more.next)
same_told rows more same =
    let both = and-both (eqb rows.next more.next) (pointwise (is_same_entry eq-value.it) rows.entries more.entries) same in
    (rows_told rows.entries more.entries both.1, eqb-true rows.next more.next both.0)

pub told_same : (rows more : Numbered Found) → rows.entries ≡ more.entries → rows.next ≡ more.next → is_same eq-value.it rows more ≡ true
told_same rows more entries next =
    (λ i. eqb (next i) more.next && pointwise (is_same_entry eq-value.it) (entries i) more.entries)
    ∙ (λ i. eq-eqb more.next more.next refl i && rows_themselves more.entries i)

-- ---- from rows and places

module _ (p q : Places) (objects : AllByRecursion (HasSame q) (map (λ (e : Numbering Topic). e.value) p.objects.entries)) (directories : AllByRecursion (HasSame q) (map (λ (e : Numbering Topic). e.value) p.directories.entries))
    (on : (f : Found) (s : Topic) → place_at f p ≡ Some s → target_of s ≡ f) where
  has : (f : Found) (s : Topic) → place_at f p ≡ Some s → HasSame q s
  has (FoundObject n) s at = value_all (HasSame q) n p.objects.entries s objects at
  has (FoundDirectory n) s at = value_all (HasSame q) n p.directories.entries s directories at

  same_place : (f : Found) (s : Topic) → place_at f p ≡ Some s → handles_on q f ≡ handles_on p f
  same_place f s at = ap (handles_on q) (sym (on f s at)) ∙ has f s at ∙ sym (ap handles_in_place at)

  same_row : (e : Numbering Found) → is_some (row_handle (handles_on p) e) ≡ true → row_handle (handles_on q) e ≡ row_handle (handles_on p) e
  same_row e some = by (place_at e.value p) refl
    where
      by : (o : Option Topic) → place_at e.value p ≡ o → row_handle (handles_on q) e ≡ row_handle (handles_on p) e
      by None at = absurd (let none : handles_on p e.value ≡ [] = ap handles_in_place at in let bad : is_some (handle_at e.number []) ≡ true = ap (λ hs. is_some (handle_at e.number hs)) (sym none) ∙ some in cc)
      by (Some s) at = ap (handle_at e.number) (same_place e.value s at)

  pub same_rows : (es : List (Numbering Found)) → AllByRecursion (λ (e : Numbering Found). is_some (row_handle (handles_on p) e) ≡ true) es → filter_map (row_handle (handles_on q)) es ≡ filter_map (row_handle (handles_on p)) es
  same_rows [] all = refl
  same_rows (e ∷ es) all = λ i. cons_option (same_row e all.0 i) (same_rows es all.1 i)

-- ---- back from handles

-- what a handle is on
abbrev found_of : OpenHandle Progress → Found
found_of h = cond (is_directory_kind h.kind) (FoundDirectory h.target) (FoundObject h.target)

on_found : (f : Found) (h : OpenHandle Progress) → IsOn (is_directory f) (number_of f) h → found_of h ≡ f
on_found (FoundObject n) h is = ap (λ b. cond b (FoundDirectory h.target) (FoundObject h.target)) is.flag ∙ ap FoundObject is.on
on_found (FoundDirectory n) h is = ap (λ b. cond b (FoundDirectory h.target) (FoundObject h.target)) is.flag ∙ ap FoundDirectory is.on

abbrev row_of : OpenHandle Progress → Numbering Found
row_of h = record { number = h.number; value = found_of h }

module _ (on : Found → List (OpenHandle Progress)) (on_topic : (f : Found) → AreOn (is_directory f) (number_of f) (on f)) where
  row_is : (e : Numbering Found) (h : OpenHandle Progress) → row_handle on e ≡ Some h → row_of h ≡ e
  row_is e h at =
      let number : h.number ≡ e.number = at_number e.number (on e.value) h at in
      let value : found_of h ≡ e.value = on_found e.value h (all-find (IsOn (is_directory e.value) (number_of e.value)) (λ h. eqb h.number e.number) (on e.value) h (on_topic e.value).each at) in
      λ i. record { number = number i; value = value i }

  pub rows_of : (es : List (Numbering Found)) → AllByRecursion (λ (e : Numbering Found). is_some (row_handle on e) ≡ true) es → map row_of (filter_map (row_handle on) es) ≡ es
  rows_of [] all = refl
  rows_of (e ∷ es) all = by (row_handle on e) refl all.0 (rows_of es all.1)
    where
      by : (o : Option (OpenHandle Progress)) → row_handle on e ≡ o → is_some o ≡ true → map row_of (filter_map (row_handle on) es) ≡ es → map row_of (cons_option o (filter_map (row_handle on) es)) ≡ e ∷ es
      by None at some rest = absurd (let bad = some in cc)
      by (Some h) at some rest = λ i. row_is e h at i ∷ rest i

-- ---- both ways

module _ (rows more : Numbered Found) (p q : Places) (whole : IsWhole (whole_of rows p)) (other : IsWhole (whole_of more q)) where
  pub same_handles : rows.entries ≡ more.entries → AllByRecursion (HasSame q) (map (λ (e : Numbering Topic). e.value) p.objects.entries) → AllByRecursion (HasSame q) (map (λ (e : Numbering Topic). e.value) p.directories.entries)
      → handles_in (whole_of rows p) ≡ handles_in (whole_of more q)
  same_handles entries objects directories = sym (same_rows p q objects directories whole.placed.on rows.entries whole.rowed.each) ∙ ap (filter_map (row_handle (handles_on q))) entries

  module _ (same : handles_in (whole_of rows p) ≡ handles_in (whole_of more q)) where
    pub same_entries : rows.entries ≡ more.entries
    same_entries =
        sym (rows_of (handles_on p) whole.rowed.on_topic rows.entries whole.rowed.each)
        ∙ ap (map row_of) same
        ∙ rows_of (handles_on q) other.rowed.on_topic more.entries other.rowed.each

    same_on : (f : Found) → handles_on q f ≡ handles_on p f
    same_on f = sym (on_it more q other f) ∙ ap (filter (is_on f)) (sym same) ∙ on_it rows p whole f

    has_there : (f : Found) (s : Topic) → place_at f p ≡ Some s → HasSame q s
    has_there f s at = ap (handles_on q) (whole.placed.on f s at) ∙ same_on f ∙ ap handles_in_place at

    each_of : (es : List (Numbering Topic)) → AllByRecursion (λ (e : Numbering Topic). HasSame q e.value) es → AllByRecursion (HasSame q) (map (λ (e : Numbering Topic). e.value) es)
    each_of [] all = tt
    each_of (e ∷ es) all = (all.0, each_of es all.1)

    pub objects_same : AllByRecursion (HasSame q) (map (λ (e : Numbering Topic). e.value) p.objects.entries)
    objects_same =
        each_of p.objects.entries
        (all-imp (λ (e : Numbering Topic). value_under e.number p.objects.entries ≡ Some e.value) (λ (e : Numbering Topic). HasSame q e.value) (λ e at. has_there (FoundObject e.number) e.value at) p.objects.entries
        (own_values 0 p.objects.next p.objects.entries whole.placed.objects_rise))

    pub directories_same : AllByRecursion (HasSame q) (map (λ (e : Numbering Topic). e.value) p.directories.entries)
    directories_same =
        each_of p.directories.entries
        (all-imp (λ (e : Numbering Topic). value_under e.number p.directories.entries ≡ Some e.value) (λ (e : Numbering Topic). HasSame q e.value) (λ e at. has_there (FoundDirectory e.number) e.value at) p.directories.entries
        (own_values 0 p.directories.next p.directories.entries whole.placed.directories_rise))
