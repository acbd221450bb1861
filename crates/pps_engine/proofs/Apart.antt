-- No two entries have one path.
use Rattle.std.proofs.Common.{◌≡◌, Bool, true, false, cond, not, List, [], ◌∷◌, ◌++◌, map, refl, sym, ap, ◌∙◌}
use Rattle.std.specs.Prelude.{filter}
use Rattle.std.specs.List.{list_all, AllByRecursion}
use Rattle.std.specs.Ordering.{is_eq}
use Rattle.std.proofs.lemmas.Bool.{and_parts}
use Rattle.std.proofs.lemmas.List.Folds.{list_all-append}
use Rattle.pps_types.specs.Names.{Path, same_path, path_cmp}
use Rattle.pps_types.specs.Image.{Saved, path_of}
use Rattle.service_laws.proofs.Finds.{all-filter}
use Rattle.service_laws.proofs.Trees.{path-itself}
use Rattle.name_table.proofs.Places.{equal_paths}
use Rattle.name_table.proofs.Sorting.{AreDistinct, distinct_append, all_map_in, all_map_out}
use Rattle.image_laws.proofs.Places.{AreApart}

-- ---- paths

-- none of these is that path
abbrev AreOther : Path → List Path → Type 0
AreOther p ps = AllByRecursion (λ q. is_eq (path_cmp p q) ≡ false) ps

differs : (p q : Path) → not (same_path p q) ≡ true → is_eq (path_cmp p q) ≡ false
differs p q other = by (is_eq (path_cmp p q)) refl
  where
    by : (b : Bool) → is_eq (path_cmp p q) ≡ b → b ≡ false
    by false e = refl
    by true e = absurd (let no : false ≡ true = ap not (sym (path-itself p) ∙ ap (same_path p) (equal_paths p q e)) ∙ other in cc)

all_differ : (p : Path) (ps : List Path) → list_all (λ q. not (same_path p q)) ps ≡ true → AreOther p ps
all_differ p [] h = tt
all_differ p (q ∷ ps) h = let parts = and_parts (not (same_path p q)) (list_all (λ q. not (same_path p q)) ps) h in (differs p q parts.0, all_differ p ps parts.1)

apart_front : (ps qs : List Path) → AreApart (ps ++ qs) → AreApart ps
apart_front [] qs a = tt
apart_front (p ∷ ps) qs a =
    let test : Path → Bool = λ q. not (same_path p q) in
    ((and_parts (list_all test ps) (list_all test qs) (sym (list_all-append test ps qs) ∙ a.0)).0, apart_front ps qs a.1)

apart_behind : (ps qs : List Path) → AreApart (ps ++ qs) → AreApart qs
apart_behind [] qs a = a
apart_behind (p ∷ ps) qs a = apart_behind ps qs a.1

apart_across : (ps qs : List Path) → AreApart (ps ++ qs) → AllByRecursion (λ p. AreOther p qs) ps
apart_across [] qs a = tt
apart_across (p ∷ ps) qs a =
    let test : Path → Bool = λ q. not (same_path p q) in
    (all_differ p qs (and_parts (list_all test ps) (list_all test qs) (sym (list_all-append test ps qs) ∙ a.0)).1, apart_across ps qs a.1)

-- ---- entries

-- no entry is at that path
abbrev AreElsewhere : List Saved → Path → Type 0
AreElsewhere es p = AllByRecursion (λ e. is_eq (path_cmp p (path_of e)) ≡ false) es

module _ {X : Type 0} (entry : X → Saved) (test : X → Bool) where
  abbrev kept : List X → List Saved
  kept xs = map entry (filter test xs)

  abbrev paths : List X → List Path
  paths xs = map (λ x. path_of (entry x)) xs

  kept_elsewhere : (p : Path) (xs : List X) → AreOther p (paths xs) → AreElsewhere (kept xs) p
  kept_elsewhere p xs all =
      all_map_in (λ e. is_eq (path_cmp p (path_of e)) ≡ false) entry (filter test xs)
      (all-filter (λ x. is_eq (path_cmp p (path_of (entry x))) ≡ false) test xs (all_map_out (λ q. is_eq (path_cmp p q) ≡ false) (λ x. path_of (entry x)) xs all))

  each_elsewhere : (es : List Saved) (xs : List X) → AllByRecursion (AreElsewhere es) (paths xs) → AllByRecursion (λ e. AreElsewhere es (path_of e)) (kept xs)
  each_elsewhere es xs all =
      all_map_in (λ e. AreElsewhere es (path_of e)) entry (filter test xs)
      (all-filter (λ x. AreElsewhere es (path_of (entry x))) test xs (all_map_out (AreElsewhere es) (λ x. path_of (entry x)) xs all))

  kept_distinct : (xs : List X) → AreApart (paths xs) → AreDistinct path_cmp path_of (kept xs)
  kept_distinct [] a = tt
  kept_distinct (x ∷ xs) a =
      elim (test x) as (λ b. AreDistinct path_cmp path_of (map entry (cond b (x ∷ filter test xs) (filter test xs))))
      [ true ↦ (kept_elsewhere (path_of (entry x)) xs (all_differ (path_of (entry x)) (paths xs) a.0), kept_distinct xs a.1) | false ↦ kept_distinct xs a.1 ]

module _ {X Y : Type 0} (entry : X → Saved) (test : X → Bool) (other : Y → Saved) (passes : Y → Bool) where
  across_kept : (ys : List Y) (ps : List Path) → AllByRecursion (λ p. AreOther p (paths other passes ys)) ps → AllByRecursion (AreElsewhere (kept other passes ys)) ps
  across_kept ys [] all = tt
  across_kept ys (p ∷ ps) all = (kept_elsewhere other passes p ys all.0, across_kept ys ps all.1)

  -- those that are kept of two lists, where no two paths are the same
  pub both_distinct : (xs : List X) (ys : List Y) → AreApart (paths entry test xs ++ paths other passes ys) → AreDistinct path_cmp path_of (kept entry test xs ++ kept other passes ys)
  both_distinct xs ys a =
      let ps = paths entry test xs in
      let qs = paths other passes ys in
      distinct_append path_cmp path_of (kept entry test xs) (kept other passes ys)
      (kept_distinct entry test xs (apart_front ps qs a))
      (kept_distinct other passes ys (apart_behind ps qs a))
      (each_elsewhere entry test (kept other passes ys) xs (across_kept ys ps (apart_across ps qs a)))
