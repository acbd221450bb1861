-- What stands within its bounds is saved as entries that may follow one another.
use Rattle.std.proofs.Common.{◌≡◌, ℕ, suc, ◌+◌, ◌≤◌, Bool, true, false, cond, not, ◌&&◌, ◌||◌, eqb, List, [], ◌∷◌, ◌++◌, length, map, Some, Ok, refl, sym, ap, subst, ◌∙◌, append_assoc, length-append, arith}
use Rattle.std.specs.Prelude.{filter, find, is_some}
use Rattle.std.specs.List.{list_all, list_any, AllByRecursion}
use Rattle.std.proofs.lemmas.Bool.{and_parts, and_from, eq-eqb}
use Rattle.std.proofs.lemmas.List.{map-append}
use Rattle.pps_types.specs.Bytes.{same, is_empty}
use Rattle.pps_types.specs.Text.{print_line, print_lines}
use Rattle.pps_types.specs.Names.{Path, same_path, parent}
use Rattle.pps_types.specs.History.{Attribute, line_of, persistent, text_length}
use Rattle.pps_types.specs.Content.{Directory, LiveObject, Content, directory_at}
use Rattle.pps_types.specs.WellFormed.{IsContent}
use Rattle.pps_types.specs.Image.{SavedLine, Saved, SavedDirectory, SavedObject, path_of, as_line, saved_line, directory_path, is_kept, saved_object, saved, image, is_directory_entry, same_sort, has_parent, are_beside, read_image}
use Rattle.pps_types.proofs.Lists.{append-nil}
use Rattle.service_laws.proofs.Finds.{is-some}
use Rattle.service_laws.proofs.PathEnds.{parent-push}
use Rattle.service_laws.proofs.Trees.{same_path-is}
use Rattle.service_laws.specs.Bounds.{IsBoundObject, IsBound}
use Rattle.service_laws.proofs.BoundedLists.{filter-push}
use Rattle.image_laws.specs.Images.{is_new, AreLines, IsSavedPath}
use Rattle.image_laws.specs.Savable.{object_path, AreAttributes, AreSavable, CanBeSaved}
use Rattle.image_laws.proofs.Good.{IsGood}
use Rattle.image_laws.proofs.Places.{any-found, home, same-home, AreApart, ArePlaced, places}
use Rattle.image_laws.proofs.Printed.{image_text-read}
use Rattle.image_laws.proofs.Sorted.{IsWell, sorted-entries}

abbrev pub directories_of : List Directory → List Saved
directories_of ds = map (λ d. SavedDirectory d.path) (filter (λ d. not (is_empty d.path)) ds)

abbrev pub objects_of : Content → List LiveObject → List Saved
objects_of c os = map (saved_object c) (filter is_kept os)

-- ---- apart

module _ (c : Content) where
  all-objects : (p : Path → Bool) (os : List LiveObject) → list_all p (map (object_path c) os) ≡ true → list_all p (map path_of (objects_of c os)) ≡ true
  all-objects p [] h = refl
  all-objects p (o ∷ os) h =
      let parts = and_parts (p (object_path c o)) (list_all p (map (object_path c) os)) h in
      elim (is_kept o) as (λ b. list_all p (map path_of (map (saved_object c) (cond b (o ∷ filter is_kept os) (filter is_kept os)))) ≡ true)
      [ true ↦ and_from _ _ parts.0 (all-objects p os parts.1) | false ↦ all-objects p os parts.1 ]

  all-entries : (p : Path → Bool) (ds : List Directory) (os : List LiveObject) → list_all p (map (λ d. d.path) ds ++ map (object_path c) os) ≡ true → list_all p (map path_of (directories_of ds ++ objects_of c os)) ≡ true
  all-entries p [] os h = all-objects p os h
  all-entries p (d ∷ ds) os h =
      let parts = and_parts (p d.path) (list_all p (map (λ d. d.path) ds ++ map (object_path c) os)) h in
      elim (not (is_empty d.path)) as (λ b. list_all p (map path_of (map (λ (d : Directory). SavedDirectory d.path) (cond b (d ∷ filter (λ d. not (is_empty d.path)) ds) (filter (λ d. not (is_empty d.path)) ds)) ++ objects_of c os)) ≡ true)
      [ true ↦ and_from _ _ parts.0 (all-entries p ds os parts.1) | false ↦ all-entries p ds os parts.1 ]

  apart-objects : (os : List LiveObject) → AreApart (map (object_path c) os) → AreApart (map path_of (objects_of c os))
  apart-objects [] h = tt
  apart-objects (o ∷ os) h =
      elim (is_kept o) as (λ b. AreApart (map path_of (map (saved_object c) (cond b (o ∷ filter is_kept os) (filter is_kept os)))))
      [ true ↦ (all-objects (λ q. not (same_path (object_path c o) q)) os h.0, apart-objects os h.1) | false ↦ apart-objects os h.1 ]

  apart-entries : (ds : List Directory) (os : List LiveObject) → AreApart (map (λ d. d.path) ds ++ map (object_path c) os) → AreApart (map path_of (directories_of ds ++ objects_of c os))
  apart-entries [] os h = apart-objects os h
  apart-entries (d ∷ ds) os h =
      elim (not (is_empty d.path)) as (λ b. AreApart (map path_of (map (λ (d : Directory). SavedDirectory d.path) (cond b (d ∷ filter (λ d. not (is_empty d.path)) ds) (filter (λ d. not (is_empty d.path)) ds)) ++ objects_of c os)))
      [ true ↦ (all-entries (λ q. not (same_path d.path q)) ds os h.0, apart-entries ds os h.1) | false ↦ apart-entries ds os h.1 ]

-- ---- the parent is among them

any-left : (p : Saved → Bool) (xs ys : List Saved) → list_any p xs ≡ true → list_any p (xs ++ ys) ≡ true
any-left p [] ys h = absurd cc
any-left p (x ∷ xs) ys h = by (p x) h (any-left p xs ys)
  where
    by : (t : Bool) → (t || list_any p xs) ≡ true → (list_any p xs ≡ true → list_any p (xs ++ ys) ≡ true) → (t || list_any p (xs ++ ys)) ≡ true
    by true h rec = refl
    by false h rec = rec h

directory-among : (p : Path) (ds : List Directory) → is_empty p ≡ false → list_any (λ x. same_path x.path p) ds ≡ true → list_any (λ x. is_directory_entry x && same_path (path_of x) p) (directories_of ds) ≡ true
directory-among p [] some h = absurd cc
directory-among p (d ∷ ds) some h = by (same_path d.path p) (is_empty d.path) refl refl h (directory-among p ds some)
  where
    by : (t r : Bool) → same_path d.path p ≡ t → is_empty d.path ≡ r → (t || list_any (λ x. same_path x.path p) ds) ≡ true → (list_any (λ x. same_path x.path p) ds ≡ true → list_any (λ x. is_directory_entry x && same_path (path_of x) p) (directories_of ds) ≡ true)
        → list_any (λ x. is_directory_entry x && same_path (path_of x) p) (map (λ (d : Directory). SavedDirectory d.path) (cond (not r) (d ∷ filter (λ d. not (is_empty d.path)) ds) (filter (λ d. not (is_empty d.path)) ds))) ≡ true
    by true true is root h rec = absurd (let e = sym root ∙ ap is_empty (same_path-is d.path p is) ∙ some in cc)
    by true false is root h rec = rw is refl
    by false true is root h rec = rec h
    by false false is root h rec = rw (is, rec h) refl

pub parent-among : (c : Content) (e : Saved) → list_any (λ x. same_path x.path (parent (path_of e))) c.directories ≡ true → has_parent (directories_of c.directories ++ objects_of c c.objects) e ≡ true
parent-among c e h = by (is_empty (parent (path_of e))) refl
  where
    by : (t : Bool) → is_empty (parent (path_of e)) ≡ t → (t || list_any (λ x. is_directory_entry x && same_path (path_of x) (parent (path_of e))) (directories_of c.directories ++ objects_of c c.objects)) ≡ true
    by true at-root = refl
    by false at-root = any-left (λ x. is_directory_entry x && same_path (path_of x) (parent (path_of e))) (directories_of c.directories) (objects_of c c.objects) (directory-among (parent (path_of e)) c.directories at-root h)

-- ---- how many

pub count-append : (p : Saved → Bool) (xs ys : List Saved) → length (filter p (xs ++ ys)) ≡ length (filter p xs) + length (filter p ys)
count-append p [] ys = omega arith
count-append p (x ∷ xs) ys =
    elim (p x) as (λ b. length (cond b (x ∷ filter p (xs ++ ys)) (filter p (xs ++ ys))) ≡ length (cond b (x ∷ filter p xs) (filter p xs)) + length (filter p ys))
    [ true ↦ (let h = count-append p xs ys in omega arith) | false ↦ count-append p xs ys ]

-- no object is of a directory's sort, and no directory of an object's
pub none-objects : (p : Saved → Bool) (c : Content) → ((path : Path) (lines : List SavedLine) → p (SavedObject path lines) ≡ false) → (os : List LiveObject) → filter p (map (saved_object c) os) ≡ []
none-objects p c not_it [] = refl
none-objects p c not_it (o ∷ os) = rw (not_it (object_path c o) (map saved_line (persistent o.attributes))) (none-objects p c not_it os)

pub none-directories : (p : Saved → Bool) → ((path : Path) → p (SavedDirectory path) ≡ false) → (ds : List Directory) → filter p (map (λ (d : Directory). SavedDirectory d.path) ds) ≡ []
none-directories p not_it [] = refl
none-directories p not_it (d ∷ ds) = rw (not_it d.path) (none-directories p not_it ds)

-- those that pass are of directories that pass
pub count-directories : (p : Saved → Bool) (t : Directory → Bool) → ((d : Directory) → p (SavedDirectory d.path) ≡ true → is_empty d.path ≡ false → t d ≡ true) → (ds : List Directory) → length (filter p (directories_of ds)) ≤ length (filter t ds)
count-directories p t f [] = omega arith
count-directories p t f (d ∷ ds) = by (is_empty d.path) (p (SavedDirectory d.path)) (t d) refl refl refl (count-directories p t f ds)
  where
    by : (r a b : Bool) → is_empty d.path ≡ r → p (SavedDirectory d.path) ≡ a → t d ≡ b → length (filter p (directories_of ds)) ≤ length (filter t ds)
        → length (filter p (map (λ (d : Directory). SavedDirectory d.path) (cond (not r) (d ∷ filter (λ d. not (is_empty d.path)) ds) (filter (λ d. not (is_empty d.path)) ds)))) ≤ length (cond b (d ∷ filter t ds) (filter t ds))
    by true a true root x y h = omega arith
    by true a false root x y h = h
    by false true true root x y h = rw x (omega arith)
    by false true false root x y h = absurd (let e = sym y ∙ f d x root in cc)
    by false false true root x y h = rw x (omega arith)
    by false false false root x y h = rw x h

pub count-objects : (c : Content) (p : Saved → Bool) (t : LiveObject → Bool) (os : List LiveObject) → AllByRecursion (λ o. p (saved_object c o) ≡ true → t o ≡ true) os → length (filter p (objects_of c os)) ≤ length (filter t os)
count-objects c p t [] f = omega arith
count-objects c p t (o ∷ os) f = by (is_kept o) (p (saved_object c o)) (t o) refl refl f.0 (count-objects c p t os f.1)
  where
    by : (r a b : Bool) → p (saved_object c o) ≡ a → t o ≡ b → (p (saved_object c o) ≡ true → t o ≡ true) → length (filter p (objects_of c os)) ≤ length (filter t os)
        → length (filter p (map (saved_object c) (cond r (o ∷ filter is_kept os) (filter is_kept os)))) ≤ length (cond b (o ∷ filter t os) (filter t os))
    by false a true x y f h = omega arith
    by false a false x y f h = h
    by true true true x y f h = rw x (omega arith)
    by true true false x y f h = absurd (let e = sym y ∙ f x in cc)
    by true false true x y f h = rw x (omega arith)
    by true false false x y f h = rw x h

pub all-pass : {X : Type 0} (xs : List X) → length (filter (λ x. true) xs) ≡ length xs
all-pass [] = refl
all-pass (x ∷ xs) = ap suc (all-pass xs)

pub any-objects : (c : Content) (p : Saved → Bool) (os : List LiveObject) → AllByRecursion (λ (o : LiveObject). p (saved_object c o) ≡ true → true ≡ true) os
any-objects c p [] = tt
any-objects c p (o ∷ os) = (λ h. refl, any-objects c p os)

-- ---- directories

not-root : (ds : List Directory) → length (filter (λ d. not (is_empty d.path)) ds) ≤ length ds
not-root [] = omega arith
not-root (d ∷ ds) =
    elim (not (is_empty d.path)) as (λ b. length (cond b (d ∷ filter (λ d. not (is_empty d.path)) ds) (filter (λ d. not (is_empty d.path)) ds)) ≤ length (d ∷ ds))
    [ true ↦ (let h = not-root ds in omega arith) | false ↦ (let h = not-root ds in omega arith) ]

-- the root is not among them
with-root : (ds : List Directory) (r : Directory) → find (λ d. same_path d.path []) ds ≡ Some r → length (filter (λ d. not (is_empty d.path)) ds) + 1 ≤ length ds
with-root [] r h = absurd cc
with-root (d ∷ ds) r h = by d.path refl h (not-root ds) (with-root ds r)
  where
    by : (p : Path) → d.path ≡ p → cond (same_path p []) (Some d) (find (λ d. same_path d.path []) ds) ≡ Some r → length (filter (λ d. not (is_empty d.path)) ds) ≤ length ds
        → (find (λ d. same_path d.path []) ds ≡ Some r → length (filter (λ d. not (is_empty d.path)) ds) + 1 ≤ length ds) → length (filter (λ d. not (is_empty d.path)) (d ∷ ds)) + 1 ≤ length (d ∷ ds)
    by [] is h most rec = rw is (omega arith)
    by (n ∷ p) is h most rec = let m = rec h in rw is (omega arith)

pub root-is : (p : Path) → is_empty p ≡ false → not (same_path p []) ≡ true
root-is [] e = absurd cc
root-is (n ∷ p) e = refl

abbrev all_entries : Content → List Saved
all_entries c = directories_of c.directories ++ objects_of c c.objects

module _ (c : Content) (content : IsContent c) (bound : IsBound c) (can : CanBeSaved c) where
  directory-well : (d : Directory) → is_empty d.path ≡ false → IsSavedPath d.path → list_any (λ x. same_path x.path (parent d.path)) c.directories ≡ true → IsWell (all_entries c) (SavedDirectory d.path)
  directory-well d some path parents = record {
    path_is = path;
    some = some;
    parent_is = parent-among c (SavedDirectory d.path) parents;
    beside =
        let beside = are_beside (SavedDirectory d.path) in
        let a = count-append beside (directories_of c.directories) (objects_of c c.objects) in
        let b = ap length (none-objects beside c (λ path lines. refl) (filter is_kept c.objects)) in
        let e = count-directories beside (λ x. not (same_path x.path []) && same_path (parent x.path) (parent d.path)) (λ x h some. and_from _ _ (root-is x.path some) h) c.directories in
        let f = bound.branches (parent d.path) in
        omega arith;
    all =
        let sort = same_sort (SavedDirectory d.path) in
        let a = count-append sort (directories_of c.directories) (objects_of c c.objects) in
        let b = ap length (none-objects sort c (λ path lines. refl) (filter is_kept c.objects)) in
        let e = count-directories sort (λ x. not (is_empty x.path)) (λ x h some. ap not some) c.directories in
        let f = with-root c.directories (record { number = 0; path = [] }) content.tree.root in
        let g = can.directories in
        omega arith;
    few = omega arith;
    lines_are = tt;
  }

  directories-well : (ds : List Directory) → AllByRecursion (λ d. IsSavedPath d.path) ds → AllByRecursion (λ d. list_any (λ x. same_path x.path (parent d.path)) c.directories ≡ true) ds → (rest : List Saved) → AllByRecursion (IsWell (all_entries c)) rest → AllByRecursion (IsWell (all_entries c)) (directories_of ds ++ rest)
  directories-well [] paths parents rest all = all
  directories-well (d ∷ ds) paths parents rest all = by (is_empty d.path) refl (directories-well ds paths.1 parents.1 rest all)
    where
      by : (r : Bool) → is_empty d.path ≡ r → AllByRecursion (IsWell (all_entries c)) (directories_of ds ++ rest) → AllByRecursion (IsWell (all_entries c)) (map (λ (d : Directory). SavedDirectory d.path) (cond (not r) (d ∷ filter (λ d. not (is_empty d.path)) ds) (filter (λ d. not (is_empty d.path)) ds)) ++ rest)
      by true root h = h
      by false root h = (directory-well d root paths.0 parents.0, h)

-- ---- the lines of an object

persistent-push : (before : List Attribute) (a : Attribute) → persistent (before ++ a ∷ []) ≡ persistent before ++ cond (not a.n) (a ∷ []) []
persistent-push before a = filter-push (λ (a : Attribute). not a.n) before a

new-fewer : (before : List Attribute) (l : SavedLine) → is_new (map saved_line before) l ≡ true → is_new (map saved_line (persistent before)) l ≡ true
new-fewer [] l h = refl
new-fewer (x ∷ before) l h = by (same x.name l.name) x.n refl h (new-fewer before l)
  where
    by : (t n : Bool) → same x.name l.name ≡ t → not (t || list_any (λ x. same x.name l.name) (map saved_line before)) ≡ true → (is_new (map saved_line before) l ≡ true → is_new (map saved_line (persistent before)) l ≡ true)
        → is_new (map saved_line (cond (not n) (x ∷ persistent before) (persistent before))) l ≡ true
    by true n is h rec = absurd cc
    by false true is h rec = rec h
    by false false is h rec = rw is (rec h)

-- a front of lines has no longer text
print-append : (xs ys : List SavedLine) → print_lines (map as_line (xs ++ ys)) ≡ print_lines (map as_line xs) ++ print_lines (map as_line ys)
print-append [] ys = refl
print-append (x ∷ xs) ys = ap (λ rest. print_line (as_line x) ++ rest) (print-append xs ys) ∙ sym (append_assoc (print_line (as_line x)) (print_lines (map as_line xs)) (print_lines (map as_line ys)))

front-shorter : (xs ys : List SavedLine) (n : ℕ) → length (print_lines (map as_line (xs ++ ys))) ≤ n → length (print_lines (map as_line xs)) ≤ n
front-shorter xs ys n le = omega (arith, ap length (print-append xs ys), length-append (print_lines (map as_line xs)) (print_lines (map as_line ys)), le)

-- what is persistent has no longer text than all
persistent-shorter : (attributes : List Attribute) → length (print_lines (map as_line (map saved_line (persistent attributes)))) ≤ text_length attributes
persistent-shorter [] = omega arith
persistent-shorter (a ∷ attributes) = by a.n refl (persistent-shorter attributes)
  where
    by : (n : Bool) → a.n ≡ n → length (print_lines (map as_line (map saved_line (persistent attributes)))) ≤ text_length attributes
        → length (print_lines (map as_line (map saved_line (cond (not n) (a ∷ persistent attributes) (persistent attributes))))) ≤ length (print_line (line_of a) ++ print_lines (map line_of attributes))
    by true is h = omega (arith, length-append (print_line (line_of a)) (print_lines (map line_of attributes)), h)
    by false is h =
        rw is (omega (arith, length-append (print_line (as_line (saved_line a))) (print_lines (map line_of attributes)), length-append (print_line (as_line (saved_line a))) (print_lines (map as_line (map saved_line (persistent attributes)))), h))

lines-well : (before attributes : List Attribute) → AreAttributes before attributes
    → length (print_lines (map as_line (map saved_line (persistent before) ++ map saved_line (persistent attributes)))) ≤ 65536 → AreLines 65536 (map saved_line (persistent before)) (map saved_line (persistent attributes))
lines-well before [] h fits = tt
lines-well before (a ∷ attributes) h fits = by a.n (persistent-push before a) fits (lines-well (before ++ a ∷ []) attributes h.2)
  where
    by : (n : Bool) → persistent (before ++ a ∷ []) ≡ persistent before ++ cond (not n) (a ∷ []) []
        → length (print_lines (map as_line (map saved_line (persistent before) ++ map saved_line (cond (not n) (a ∷ persistent attributes) (persistent attributes))))) ≤ 65536
        → (length (print_lines (map as_line (map saved_line (persistent (before ++ a ∷ [])) ++ map saved_line (persistent attributes)))) ≤ 65536 → AreLines 65536 (map saved_line (persistent (before ++ a ∷ []))) (map saved_line (persistent attributes)))
        → AreLines 65536 (map saved_line (persistent before)) (map saved_line (cond (not n) (a ∷ persistent attributes) (persistent attributes)))
    by true e fits rec =
        let same : persistent (before ++ a ∷ []) ≡ persistent before = e ∙ append-nil (persistent before) in
        subst (λ b. AreLines 65536 (map saved_line b) (map saved_line (persistent attributes))) same
        (rec (subst (λ b. length (print_lines (map as_line (map saved_line b ++ map saved_line (persistent attributes)))) ≤ 65536) (sym same) fits))
    by false e fits rec =
        let one : map saved_line (persistent (before ++ a ∷ [])) ≡ map saved_line (persistent before) ++ saved_line a ∷ [] = ap (map saved_line) e ∙ map-append saved_line (persistent before) (a ∷ []) in
        let all = append_assoc (map saved_line (persistent before)) (saved_line a ∷ []) (map saved_line (persistent attributes)) in
        let more : length (print_lines (map as_line ((map saved_line (persistent before) ++ saved_line a ∷ []) ++ map saved_line (persistent attributes)))) ≤ 65536 = subst (λ ls. length (print_lines (map as_line ls)) ≤ 65536) (sym all) fits in (
          h.0,
          new-fewer before (saved_line a) h.1,
          front-shorter (map saved_line (persistent before) ++ saved_line a ∷ []) (map saved_line (persistent attributes)) 65536 more,
          subst (λ b. AreLines 65536 b (map saved_line (persistent attributes))) one (rec (subst (λ b. length (print_lines (map as_line (b ++ map saved_line (persistent attributes)))) ≤ 65536) (sym one) more)),
        )

fewer-persistent : (attributes : List Attribute) → length (map saved_line (persistent attributes)) ≤ length attributes
fewer-persistent [] = omega arith
fewer-persistent (a ∷ attributes) =
    elim (not a.n) as (λ b. length (map saved_line (cond b (a ∷ persistent attributes) (persistent attributes))) ≤ length (a ∷ attributes))
    [ true ↦ (let h = fewer-persistent attributes in omega arith) | false ↦ (let h = fewer-persistent attributes in omega arith) ]

-- ---- objects

push-some : (p : Path) (n : List ℕ) → is_empty (p ++ n ∷ []) ≡ false
push-some [] n = refl
push-some (m ∷ p) n = refl

module _ (c : Content) (w : IsContent c) where
  -- those beside an object lie in its directory
  pub beside-home : (o : LiveObject) → is_some (find (λ d. eqb d.number o.object.directory) c.directories) ≡ true → (os : List LiveObject) → AllByRecursion (λ o. is_some (find (λ d. eqb d.number o.object.directory) c.directories) ≡ true) os
      → AllByRecursion (λ k. are_beside (saved_object c o) (saved_object c k) ≡ true → eqb k.object.directory o.object.directory ≡ true) os
  beside-home o h [] all = tt
  beside-home o h (k ∷ os) all = (
    (λ b. eq-eqb k.object.directory o.object.directory (same-home c w k.object.directory o.object.directory all.0 h
        (sym (parent-push (directory_path c k.object.directory) k.object.name) ∙ same_path-is (parent (object_path c k)) (parent (object_path c o)) b ∙ parent-push (directory_path c o.object.directory) o.object.name))),
    beside-home o h os all.1,
  )

module _ (c : Content) (content : IsContent c) (bound : IsBound c) (can : CanBeSaved c) where
  placed : ArePlaced c
  placed = places c content

  object-well : (o : LiveObject) → IsBoundObject o → is_some (find (λ d. eqb d.number o.object.directory) c.directories) ≡ true → IsSavedPath (object_path c o) → AreSavable o.attributes → IsWell (all_entries c) (saved_object c o)
  object-well o sized h path attributes = record {
    path_is = path;
    some = push-some (directory_path c o.object.directory) o.object.name;
    parent_is =
        let d = home c content o.object.directory h in
        let is : d.0.path ≡ parent (object_path c o) = sym d.3 ∙ sym (parent-push (directory_path c o.object.directory) o.object.name) in
        parent-among c (saved_object c o) (subst (λ p. list_any (λ x. same_path x.path p) c.directories ≡ true) is (any-found (λ (x : Directory). same_path x.path d.0.path) c.directories (is-some (directory_at c d.0.path) d.0 d.2)));
    beside =
        let beside = are_beside (saved_object c o) in
        let a = count-append beside (directories_of c.directories) (objects_of c c.objects) in
        let b = ap length (none-directories beside (λ path. refl) (filter (λ d. not (is_empty d.path)) c.directories)) in
        let e = count-objects c beside (λ k. eqb k.object.directory o.object.directory) c.objects (beside-home c content o h c.objects content.tree.places) in
        let f = bound.crowds o.object.directory in
        omega arith;
    all =
        let sort = same_sort (saved_object c o) in
        let a = count-append sort (directories_of c.directories) (objects_of c c.objects) in
        let b = ap length (none-directories sort (λ path. refl) (filter (λ d. not (is_empty d.path)) c.directories)) in
        let e = count-objects c sort (λ k. true) c.objects (any-objects c sort c.objects) in
        let f = all-pass c.objects in
        let g = can.objects in
        omega arith;
    few = let h = fewer-persistent o.attributes in omega (arith, attributes.1);
    lines_are = lines-well [] o.attributes attributes.0 (let h = persistent-shorter o.attributes in omega (arith, sized.1));
  }

  objects-well : (os : List LiveObject) → AllByRecursion IsBoundObject os → AllByRecursion (λ o. is_some (find (λ d. eqb d.number o.object.directory) c.directories) ≡ true) os → AllByRecursion (λ o. IsSavedPath (object_path c o)) os
      → AllByRecursion (λ o. AreSavable o.attributes) os → AllByRecursion (IsWell (all_entries c)) (objects_of c os)
  objects-well [] sized homes paths attributes = tt
  objects-well (o ∷ os) sized homes paths attributes =
      elim (is_kept o) as (λ b. AllByRecursion (IsWell (all_entries c)) (map (saved_object c) (cond b (o ∷ filter is_kept os) (filter is_kept os))))
      [ true ↦ (object-well o sized.0 homes.0 paths.0 attributes.0, objects-well os sized.1 homes.1 paths.1 attributes.1) | false ↦ objects-well os sized.1 homes.1 paths.1 attributes.1 ]

  pub saved-well : IsGood (record { default_limit = c.default_limit; entries = saved c })
  saved-well = record {
    least = can.least;
    most = can.most;
    entries = sorted-entries (all_entries c) (apart-entries c c.directories c.objects placed.apart)
        (directories-well c content bound can c.directories can.paths placed.parents (objects_of c c.objects) (objects-well c.objects bound.objects content.tree.places can.object_paths can.attributes));
  }

  -- what is saved is read again
  pub image-read : read_image (image c) ≡ Ok (record { default_limit = c.default_limit; entries = saved c })
  image-read = image_text-read (record { default_limit = c.default_limit; entries = saved c }) saved-well
