-- What is well formed has its places: a path leads to at most one object or directory, and each is in a directory that is there.
use Rattle.std.proofs.Common.{◌≡◌, ◌≤◌, ℕ, ◌+◌, Bool, true, false, cond, not, ◌||◌, eqb, eqb-true, List, [], ◌∷◌, ◌++◌, map, Option, Some, None, refl, sym, ap, ◌∙◌, arith}
use Rattle.std.specs.Prelude.{is_some, find, filter, option_map, option_and_then}
use Rattle.std.specs.List.{list_all, list_any, AllByRecursion}
use Rattle.std.proofs.lemmas.Bool.{and_from}
use Rattle.std.proofs.lemmas.List.Folds.{list_all-append}
use Rattle.pps_types.specs.Names.{Name, Path, same_path, parent}
use Rattle.pps_types.specs.Content.{Directory, LiveObject, Content, directory_at, object_at, object_in}
use Rattle.pps_types.specs.WellFormed.{RiseBetween, IsContent, directory_numbered}
use Rattle.pps_types.specs.Image.{directory_path}
use Rattle.service_laws.proofs.Finds.{some-of, all-both, all-imp, all-find, find-true}
use Rattle.service_laws.proofs.PathEnds.{parent-push, last_name-push}
use Rattle.service_laws.proofs.Rising.{rising-above}
use Rattle.service_laws.proofs.Trees.{same_path-is}
use Rattle.image_laws.specs.Savable.{object_path}

-- no two are the same
abbrev pub AreApart : List Path → Type 0
AreApart [] = Unit {0}
AreApart (p ∷ ps) = (list_all (λ q. not (same_path p q)) ps ≡ true) × AreApart ps

-- no two paths are the same, and the parent of each directory is one
pub record ArePlaced (c : Content) : Type 0 where
  pub apart : AreApart (map (λ d. d.path) c.directories ++ map (object_path c) c.objects)
  pub parents : AllByRecursion (λ d. list_any (λ x. same_path x.path (parent d.path)) c.directories ≡ true) c.directories

-- ---- lists

pub any-found : {X : Type 0} (test : X → Bool) (xs : List X) → is_some (find test xs) ≡ true → list_any test xs ≡ true
any-found test [] h = absurd cc
any-found test (x ∷ xs) h = by (test x) h (any-found test xs)
  where
    by : (t : Bool) → is_some (cond t (Some x) (find test xs)) ≡ true → (is_some (find test xs) ≡ true → list_any test xs ≡ true) → (t || list_any test xs) ≡ true
    by true h rec = refl
    by false h rec = rec h

-- what is found stands first among all that pass
pub found-first : {X : Type 0} (test : X → Bool) (xs : List X) (x : X) → find test xs ≡ Some x → (rest : List X) × (filter test xs ≡ x ∷ rest)
found-first test [] x e = absurd (let h = e in cc)
found-first test (y ∷ ys) x e = by (test y) e (found-first test ys x)
  where
    by : (t : Bool) → cond t (Some y) (find test ys) ≡ Some x → (find test ys ≡ Some x → (rest : List _) × (filter test ys ≡ x ∷ rest)) → (rest : List _) × (cond t (y ∷ filter test ys) (filter test ys) ≡ x ∷ rest)
    by true e rec = (filter test ys, let is : y ≡ x = cc in ap (λ y. y ∷ filter test ys) is)
    by false e rec = rec e

-- ---- what stands at a path

-- the path of a directory is that of its number
pub home-path : (c : Content) (n : ℕ) (d : Directory) → directory_numbered c n ≡ Some d → directory_path c n ≡ d.path
home-path c n d e = let f = found-first (λ (d : Directory). eqb d.number n) c.directories d e in rw f.1 refl

-- an object is what stands at its path
object-there : (c : Content) (p : Path) (n : Name) (d : Directory) (o : LiveObject) → directory_at c p ≡ Some d → object_in c n d.number ≡ Some o → object_at c (p ++ n ∷ []) ≡ Some o
object-there c [] n d o e f = ap (λ k. option_and_then (object_in c n) (option_map (λ (d : Directory). d.number) k)) e ∙ f
object-there c (m ∷ ms) n d o e f =
    (λ i. option_and_then (object_in c (last_name-push (m ∷ ms) n i)) (option_map (λ (d : Directory). d.number) (directory_at c (parent-push (m ∷ ms) n i))))
    ∙ ap (λ k. option_and_then (object_in c n) (option_map (λ (d : Directory). d.number) k)) e ∙ f

module _ (c : Content) (w : IsContent c) where
  -- a directory that stands is what is found at its path
  pub home : (n : ℕ) → is_some (directory_numbered c n) ≡ true → (d : Directory) × (d.number ≡ n) × (directory_at c d.path ≡ Some d) × (directory_path c n ≡ d.path)
  home n h =
      let d = some-of (directory_numbered c n) h in (
        d.0,
        eqb-true d.0.number n (find-true (λ (d : Directory). eqb d.number n) c.directories d.0 d.1),
        all-find (λ (d : Directory). directory_at c d.path ≡ Some d) (λ d. eqb d.number n) c.directories d.0 w.tree.paths d.1,
        home-path c n d.0 d.1,
      )

  -- directories of one path have one number
  pub same-home : (n m : ℕ) → is_some (directory_numbered c n) ≡ true → is_some (directory_numbered c m) ≡ true → directory_path c n ≡ directory_path c m → n ≡ m
  same-home n m a b e =
      let x = home n a in
      let y = home m b in
      let is : Some x.0 ≡ Some y.0 = sym x.2 ∙ ap (directory_at c) (sym x.3 ∙ e ∙ y.3) ∙ y.2 in
      let one : x.0 ≡ y.0 = cc in
      sym x.1 ∙ ap (λ (d : Directory). d.number) one ∙ y.1

  object-at : (o : LiveObject) → (object_in c o.object.name o.object.directory ≡ Some o) × (is_some (directory_numbered c o.object.directory) ≡ true) → object_at c (object_path c o) ≡ Some o
  object-at o h =
      let d = home o.object.directory h.1 in
      ap (λ p. object_at c (p ++ o.object.name ∷ [])) d.3 ∙ object-there c d.0.path o.object.name d.0 o d.2 (ap (object_in c o.object.name) d.1 ∙ h.0)

  objects-at : AllByRecursion (λ (o : LiveObject). object_at c (object_path c o) ≡ Some o) c.objects
  objects-at = all-imp (λ (o : LiveObject). (object_in c o.object.name o.object.directory ≡ Some o) × (is_some (directory_numbered c o.object.directory) ≡ true)) (λ o. object_at c (object_path c o) ≡ Some o) object-at c.objects
      (all-both _ _ c.objects w.tree.names w.tree.places)

-- ---- apart

module _ {X : Type 0} (number : X → ℕ) (path : X → Path) (at : Path → Option X) where
  -- of what is at its own path none of a higher number has the path
  apart-later : (x : X) → at (path x) ≡ Some x → (ys : List X) → AllByRecursion (λ y. at (path y) ≡ Some y) ys → AllByRecursion (λ y. number x + 1 ≤ number y) ys → list_all (λ q. not (same_path (path x) q)) (map path ys) ≡ true
  apart-later x own [] owns above = refl
  apart-later x own (y ∷ ys) owns above = and_from _ _ (by (same_path (path x) (path y)) refl) (apart-later x own ys owns.1 above.1)
    where
      by : (t : Bool) → same_path (path x) (path y) ≡ t → not t ≡ true
      by false e = refl
      by true e =
          let f : Some x ≡ Some y = sym own ∙ ap at (same_path-is (path x) (path y) e) ∙ owns.0 in
          let is : x ≡ y = cc in
          let le = above.0 in let n = ap number is in absurd (omega arith)

  apart-own : (low high : ℕ) (xs : List X) → RiseBetween low (map number xs) high → AllByRecursion (λ y. at (path y) ≡ Some y) xs → AreApart (map path xs)
  apart-own low high [] r owns = tt
  apart-own low high (x ∷ xs) r owns = (apart-later x owns.0 xs owns.1 (rising-above number (number x + 1) high xs r.1), apart-own (number x + 1) high xs r.1 owns.1)

apart-append : (ps qs : List Path) → AreApart ps → AllByRecursion (λ p. list_all (λ q. not (same_path p q)) qs ≡ true) ps → AreApart qs → AreApart (ps ++ qs)
apart-append [] qs a others b = b
apart-append (p ∷ ps) qs a others b = (list_all-append (λ q. not (same_path p q)) ps qs ∙ and_from _ _ a.0 others.0, apart-append ps qs a.1 others.1 b)

-- where no object stands at a path, it is none of theirs
apart-free : (c : Content) (p : Path) → object_at c p ≡ None → (os : List LiveObject) → AllByRecursion (λ (o : LiveObject). object_at c (object_path c o) ≡ Some o) os → list_all (λ q. not (same_path p q)) (map (object_path c) os) ≡ true
apart-free c p free [] owns = refl
apart-free c p free (o ∷ os) owns = and_from _ _ (by (same_path p (object_path c o)) refl) (apart-free c p free os owns.1)
  where
    by : (t : Bool) → same_path p (object_path c o) ≡ t → not t ≡ true
    by false e = refl
    by true e = absurd (let none = sym free ∙ ap (object_at c) (same_path-is p (object_path c o) e) ∙ owns.0 in cc)

apart-frees : (c : Content) (ds : List Directory) → AllByRecursion (λ (d : Directory). object_at c d.path ≡ None) ds → AllByRecursion (λ (o : LiveObject). object_at c (object_path c o) ≡ Some o) c.objects
    → AllByRecursion (λ p. list_all (λ q. not (same_path p q)) (map (object_path c) c.objects) ≡ true) (map (λ (d : Directory). d.path) ds)
apart-frees c [] free owns = tt
apart-frees c (d ∷ ds) free owns = (apart-free c d.path free.0 c.objects owns, apart-frees c ds free.1 owns)

-- what is well formed has its places
pub places : (c : Content) → IsContent c → ArePlaced c
places c w = record {
  apart = apart-append (map (λ d. d.path) c.directories) (map (object_path c) c.objects)
      (apart-own (λ (d : Directory). d.number) (λ d. d.path) (directory_at c) 0 c.next_directory c.directories w.order.directories_rise w.tree.paths)
      (apart-frees c c.directories w.tree.free (objects-at c w))
      (apart-own (λ (o : LiveObject). o.object.number) (object_path c) (object_at c) 0 c.next_object c.objects w.order.objects_rise (objects-at c w));
  parents = all-imp (λ (d : Directory). is_some (directory_at c (parent d.path)) ≡ true) (λ d. list_any (λ x. same_path x.path (parent d.path)) c.directories ≡ true) (λ d. any-found (λ (x : Directory). same_path x.path (parent d.path)) c.directories) c.directories w.tree.parents;
}
