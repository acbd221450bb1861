-- What an image starts has its entries to save.
use Rattle.std.proofs.Common.{◌≡◌, ℕ, ◌+◌, ◌≤◌, ◌<◌, Bool, true, false, cond, not, ◌&&◌, ◌||◌, eqb, List, [], ◌∷◌, ◌++◌, length, map, Some, None, refl, sym, ap, subst, ◌∙◌, append_assoc, arith}
use Rattle.std.specs.Prelude.{fold, filter, find, is_some, unwrap_or}
use Rattle.std.specs.List.{list_all, list_any, filter_map, cons_option, AllByRecursion}
use Rattle.std.specs.Ordering.{is_lt}
use Rattle.std.proofs.lemmas.Bool.{eq-eqb, ne_eqb}
use Rattle.pps_types.specs.declared.record.Kind.TheVariants.{Change}
use Rattle.pps_types.specs.Bytes.{same, is_empty}
use Rattle.pps_types.specs.Names.{Path, same_path, parent, last_name, path_cmp, sorted_by}
use Rattle.pps_types.specs.History.{Attribute, Entry, put, persistent}
use Rattle.pps_types.specs.Content.{Object, Directory, LiveObject, Content, parent_number}
use Rattle.pps_types.specs.WellFormed.{RiseBetween}
use Rattle.pps_types.specs.Plan.{Move, AppendsRecord, entry_of, touched, apply_all_seen}
use Rattle.pps_types.specs.Machine.{start, content_of}
use Rattle.pps_types.specs.Image.{SavedLine, Saved, SavedDirectory, SavedObject, path_of, as_line, saved_line, directory_path, is_kept, saved_object, saved, Image, is_directory_entry, has_parent, restored_object, restored_seen, started_seen}
use Rattle.pps_types.proofs.Lists.{all-push, all-weaken, append-nil}
use Rattle.service_laws.proofs.Finds.{all-find}
use Rattle.service_laws.proofs.Rising.{rising-push, rising-below}
use Rattle.service_laws.proofs.Trees.{same_path-is}
use Rattle.service_laws.proofs.BoundedLists.{filter-push}
use Rattle.image_laws.specs.Images.{is_new, AreLines}
use Rattle.image_laws.proofs.Good.{IsEntry, AreEntries}
use Rattle.pps_types.proofs.SameBytes.{same-sym}
use Rattle.image_laws.proofs.Entries.{MayFollow, follow-parts}
use Rattle.image_laws.proofs.Sorting.{paths_total, all-sorted, any-sorted, sorted-last}

-- ---- what stands while an image is restored: no handle and no connection

pub record Held : Type 0 where
  pub records : ℕ
  pub objects : List LiveObject
  pub next_object : ℕ
  pub directories : List Directory
  pub next_directory : ℕ

abbrev pub held_content : ℕ → Held → Content
held_content d h = record { default_limit = d; records = h.records; objects = h.objects; next_object = h.next_object; directories = h.directories; next_directory = h.next_directory; handles = []; next_handle = 1; connections = [] }

abbrev pub nothing : Held
nothing = record { records = 0; objects = []; next_object = 0; directories = record { number = 0; path = [] } ∷ []; next_directory = 1 }

pub begins : (d : ℕ) → content_of (start 1 d) ≡ held_content d nothing
begins d = refl

-- ---- the lines of an object

abbrev pub restored_attribute : SavedLine → Attribute
restored_attribute l = record { name = l.name; enc = l.enc; value = l.value; n = false }

pub put-new : (before : List SavedLine) (l : SavedLine) → is_new before l ≡ true → put (map restored_attribute before) (restored_attribute l) ≡ map restored_attribute (before ++ l ∷ [])
put-new [] l h = refl
put-new (x ∷ before) l h = rw (same-sym l.name x.name) (by (same x.name l.name) h (put-new before l))
  where
    by : (t : Bool) → not (t || list_any (λ x. same x.name l.name) before) ≡ true → (is_new before l ≡ true → put (map restored_attribute before) (restored_attribute l) ≡ map restored_attribute (before ++ l ∷ []))
        → cond t (restored_attribute l ∷ map restored_attribute before) (restored_attribute x ∷ put (map restored_attribute before) (restored_attribute l)) ≡ map restored_attribute (x ∷ (before ++ l ∷ []))
    by true h rec = absurd cc
    by false h rec = ap (λ rest. restored_attribute x ∷ rest) (rec h)

-- a record of one object leaves the others as they are
touched-others : (e : Entry) (olds : List LiveObject) (k : LiveObject) → AllByRecursion (λ o. o.object.number < e.record_of.object) olds → filter_map (touched e) (olds ++ k ∷ []) ≡ olds ++ cons_option (touched e k) []
touched-others e [] k all = refl
touched-others e (o ∷ olds) k all =
    let other : eqb e.record_of.object o.object.number ≡ false = ne_eqb _ _ (λ is. absurd (omega (arith, all.0, is))) in
    rw other (ap (λ rest. o ∷ rest) (touched-others e olds k all.1))

abbrev pub line_moves : Object → List SavedLine → List Move
line_moves o lines = map (λ l. AppendsRecord (entry_of o (Change (as_line l ∷ [])) None)) lines

abbrev pub known_with : Object → List SavedLine → LiveObject
known_with o lines = record { object = o; attributes = map restored_attribute lines }

pub lines-applied : (d longest records next_object next_directory : ℕ) (olds : List LiveObject) (o : Object) (directories : List Directory) (before lines : List SavedLine) → AllByRecursion (λ k. k.object.number < o.number) olds → AreLines longest before lines
    → apply_all_seen (line_moves o lines) (held_content d (record { records = records; objects = olds ++ known_with o before ∷ []; next_object = next_object; directories = directories; next_directory = next_directory }))
    ≡ held_content d (record { records = records + length lines; objects = olds ++ known_with o (before ++ lines) ∷ []; next_object = next_object; directories = directories; next_directory = next_directory })
lines-applied d longest records next_object next_directory olds o directories before [] all h =
    let none : records ≡ records + 0 = omega arith in
    λ i. held_content d (record { records = none i; objects = olds ++ known_with o (sym (append-nil before) i) ∷ []; next_object = next_object; directories = directories; next_directory = next_directory })
lines-applied d longest records next_object next_directory olds o directories before (l ∷ lines) all h =
    let e : Entry = entry_of o (Change (as_line l ∷ [])) None in
    let own : eqb o.number o.number ≡ true = eq-eqb o.number o.number refl in
    let changed : filter_map (touched e) (olds ++ known_with o before ∷ []) ≡ olds ++ known_with o (before ++ l ∷ []) ∷ [] =
    touched-others e olds (known_with o before) all ∙ (rw own (ap (λ attributes. olds ++ record { object = o; attributes = attributes } ∷ []) (put-new before l h.1))) in
    let more : (records + 1) + length lines ≡ records + length (l ∷ lines) = omega arith in
    ap (λ objects. apply_all_seen (line_moves o lines) (held_content d (record { records = records + 1; objects = objects; next_object = next_object; directories = directories; next_directory = next_directory }))) changed
    ∙ lines-applied d longest (records + 1) next_object next_directory olds o directories (before ++ l ∷ []) lines all h.3
    ∙ (λ i. held_content d (record { records = more i; objects = olds ++ known_with o (append_assoc before (l ∷ []) lines i) ∷ []; next_object = next_object; directories = directories; next_directory = next_directory }))

-- what is saved of them
saved-again : (lines : List SavedLine) → map saved_line (persistent (map restored_attribute lines)) ≡ lines
saved-again [] = refl
saved-again (l ∷ lines) = ap (λ rest. l ∷ rest) (saved-again lines)

-- ---- one entry

abbrev pub with_directory : Held → Path → Held
with_directory h path = record h { directories = h.directories ++ record { number = h.next_directory; path = path } ∷ []; next_directory = h.next_directory + 1 }

abbrev pub with_object : Held → Object → List SavedLine → Held
with_object h o lines = record h { records = (h.records + 1) + length lines; objects = h.objects ++ known_with o lines ∷ []; next_object = h.next_object + 1 }

abbrev pub restored_held : ℕ → Held → Saved → Held
restored_held d h (SavedDirectory path) = with_directory h path
restored_held d h (SavedObject path lines) = with_object h (restored_object (held_content d h) path) lines

-- the root stands first
abbrev pub HasRoot : List Directory → Type 0
HasRoot [] = ⊥
HasRoot (d ∷ ds) = ((d.number ≡ 0) × (d.path ≡ [])) × AllByRecursion (λ d. 1 ≤ d.number) ds

-- what holds of it
pub record IsHeld (h : Held) : Type 0 where
  pub directories_rise : RiseBetween 0 (map (λ d. d.number) h.directories) h.next_directory
  pub objects_rise : RiseBetween 0 (map (λ o. o.object.number) h.objects) h.next_object
  pub homes : AllByRecursion (λ o. o.object.directory < h.next_directory) h.objects
  pub root : HasRoot h.directories
  pub follow : 1 ≤ h.next_directory

pub restored-one : (d longest : ℕ) (h : Held) (before : List Saved) (e : Saved) → IsHeld h → IsEntry longest before e → restored_seen (held_content d h) e ≡ held_content d (restored_held d h e)
restored-one d longest h before (SavedDirectory path) held is = refl
restored-one d longest h before (SavedObject path lines) held is =
    lines-applied d longest (h.records + 1) (h.next_object + 1) h.next_directory h.objects (restored_object (held_content d h) path) h.directories [] lines
    (rising-below (λ o. o.object.number) 0 h.next_object h.objects held.objects_rise) is.3

-- ---- it holds of what follows

rising-at : {X : Type 0} (number : X → ℕ) (low high : ℕ) (xs : List X) (y : X) → number y ≡ high → RiseBetween low (map number xs) high → RiseBetween low (map number (xs ++ y ∷ [])) (high + 1)
rising-at {X = X} number low high xs y is r = subst (λ ns. RiseBetween low ns (high + 1)) (sym (map-push xs) ∙ refl) (rising-push low high (map number xs) r)
  where
    map-push : (xs : List X) → map number (xs ++ y ∷ []) ≡ map number xs ++ high ∷ []
    map-push [] = ap (λ n. n ∷ []) is
    map-push (x ∷ xs) = ap (λ rest. number x ∷ rest) (map-push xs)

pub root-stays : (ds : List Directory) (d : Directory) → 1 ≤ d.number → HasRoot ds → HasRoot (ds ++ d ∷ [])
root-stays [] d le h = absurd h
root-stays (x ∷ ds) d le h = (h.0, all-push (λ d. 1 ≤ d.number) ds d h.1 le)

-- ---- directories by their numbers

-- those of other numbers pass no test for this one
none-numbered : (n : ℕ) (low high : ℕ) (ds : List Directory) → n < low → RiseBetween low (map (λ d. d.number) ds) high → filter (λ d. eqb d.number n) ds ≡ []
none-numbered n low high [] lt r = refl
none-numbered n low high (d ∷ ds) lt r =
    let other : eqb d.number n ≡ false = ne_eqb _ _ (λ is. absurd (omega (arith, r.0, is))) in
    rw other (none-numbered n (d.number + 1) high ds (omega (arith, r.0)) r.1)

-- the one that is found is the one of its number
pub path-numbered : (test : Directory → Bool) (low high : ℕ) (ds : List Directory) (d : Directory) → RiseBetween low (map (λ d. d.number) ds) high → find test ds ≡ Some d → (low ≤ d.number) × (rest : List Directory) × (filter (λ x. eqb x.number d.number) ds ≡ d ∷ rest)
path-numbered test low high [] d r e = absurd cc
path-numbered test low high (x ∷ ds) d r e = by (test x) e (path-numbered test (x.number + 1) high ds d r.1)
  where
    by : (t : Bool) → cond t (Some x) (find test ds) ≡ Some d → (find test ds ≡ Some d → (x.number + 1 ≤ d.number) × (rest : List Directory) × (filter (λ x. eqb x.number d.number) ds ≡ d ∷ rest))
        → (low ≤ d.number) × (rest : List Directory) × (cond (eqb x.number d.number) (x ∷ filter (λ x. eqb x.number d.number) ds) (filter (λ x. eqb x.number d.number) ds) ≡ d ∷ rest)
    by true e rec =
        let is : x ≡ d = cc in
        let own : eqb x.number d.number ≡ true = eq-eqb x.number d.number (ap (λ x. x.number) is) in
        (subst (λ x. low ≤ x.number) is r.0, filter (λ x. eqb x.number d.number) ds, rw own (ap (λ x. x ∷ filter (λ x. eqb x.number d.number) ds) is))
    by false e rec =
        let h = rec e in
        let other : eqb x.number d.number ≡ false = ne_eqb _ _ (λ is. absurd (omega (arith, h.0, is))) in
        (omega (arith, h.0, r.0), h.1, rw other h.2)

-- the directory of a path
pub record IsHome (d : ℕ) (h : Held) (path : Path) : Type 0 where
  pub number : ℕ
  pub is : parent_number (held_content d h) path ≡ Some number
  pub path_is : directory_path (held_content d h) number ≡ parent path
  pub below : number < h.next_directory
  pub there : is_some (find (λ x. eqb x.number number) h.directories) ≡ true

pub some-found : (number : ℕ) (ds : List Directory) (one : Directory) (rest : List Directory) → filter (λ x. eqb x.number number) ds ≡ one ∷ rest → is_some (find (λ x. eqb x.number number) ds) ≡ true
some-found number [] one rest e = absurd cc
some-found number (d ∷ ds) one rest e = by (eqb d.number number) e (some-found number ds one rest)
  where
    by : (t : Bool) → cond t (d ∷ filter (λ x. eqb x.number number) ds) (filter (λ x. eqb x.number number) ds) ≡ one ∷ rest → (filter (λ x. eqb x.number number) ds ≡ one ∷ rest → is_some (find (λ x. eqb x.number number) ds) ≡ true) → is_some (cond t (Some d) (find (λ x. eqb x.number number) ds)) ≡ true
    by true e rec = refl
    by false e rec = rec e

pub home-of : (d : ℕ) (h : Held) (path : Path) → IsHeld h → list_any (λ x. same_path x.path (parent path)) h.directories ≡ true → IsHome d h path
home-of d h path held any =
    let found = any-find h.directories any in
    let x = found.0 in
    let numbered = path-numbered (λ x. same_path x.path (parent path)) 0 h.next_directory h.directories x held.directories_rise found.1 in
    record {
      number = x.number;
      is = rw (found.1) refl;
      path_is = rw (numbered.2) (same_path-is x.path (parent path) found.2);
      below = all-find (λ x. x.number < h.next_directory) (λ x. same_path x.path (parent path)) h.directories x (rising-below (λ x. x.number) 0 h.next_directory h.directories held.directories_rise) found.1;
      there = some-found x.number h.directories x numbered.1 numbered.2;
    }
  where
    any-find : (ds : List Directory) → list_any (λ x. same_path x.path (parent path)) ds ≡ true → (x : Directory) × (find (λ x. same_path x.path (parent path)) ds ≡ Some x) × (same_path x.path (parent path) ≡ true)
    any-find [] e = absurd cc
    any-find (y ∷ ds) e = by (same_path y.path (parent path)) refl e (any-find ds)
      where
        by : (t : Bool) → same_path y.path (parent path) ≡ t → (t || list_any (λ x. same_path x.path (parent path)) ds) ≡ true
            → (list_any (λ x. same_path x.path (parent path)) ds ≡ true → (x : Directory) × (find (λ x. same_path x.path (parent path)) ds ≡ Some x) × (same_path x.path (parent path) ≡ true))
            → (x : Directory) × (cond t (Some y) (find (λ x. same_path x.path (parent path)) ds) ≡ Some x) × (same_path x.path (parent path) ≡ true)
        by true is e rec = (y, refl, is)
        by false is e rec = rec e

-- ---- the parent is there

-- of the entries that are saved only directories are directories
pub any-directory : (c : Content) (path : Path) → list_any (λ x. is_directory_entry x && same_path (path_of x) path) (saved c) ≡ true → list_any (λ x. same_path x.path path) c.directories ≡ true
any-directory c path e =
    split (map (λ d. SavedDirectory d.path) (filter (λ d. not (is_empty d.path)) c.directories)) (filter is_kept c.objects)
    (sym (any-sorted path_cmp path_of (λ x. is_directory_entry x && same_path (path_of x) path) (map (λ d. SavedDirectory d.path) (filter (λ d. not (is_empty d.path)) c.directories) ++ map (saved_object c) (filter is_kept c.objects))) ∙ e)
    (within c.directories)
  where
    no-object : (os : List LiveObject) → list_any (λ x. is_directory_entry x && same_path (path_of x) path) (map (saved_object c) os) ≡ false
    no-object [] = refl
    no-object (o ∷ os) = no-object os

    split : (xs : List Saved) (os : List LiveObject) → list_any (λ x. is_directory_entry x && same_path (path_of x) path) (xs ++ map (saved_object c) os) ≡ true → (list_any (λ x. is_directory_entry x && same_path (path_of x) path) xs ≡ true → list_any (λ x. same_path x.path path) c.directories ≡ true) → list_any (λ x. same_path x.path path) c.directories ≡ true
    split xs os e f = f (front xs e)
      where
        front : (xs : List Saved) → list_any (λ x. is_directory_entry x && same_path (path_of x) path) (xs ++ map (saved_object c) os) ≡ true → list_any (λ x. is_directory_entry x && same_path (path_of x) path) xs ≡ true
        front [] e = absurd (let h = no-object os in cc)
        front (x ∷ xs) e = by (is_directory_entry x && same_path (path_of x) path) e (front xs)
          where
            by : (t : Bool) → (t || list_any (λ x. is_directory_entry x && same_path (path_of x) path) (xs ++ map (saved_object c) os)) ≡ true → (list_any (λ x. is_directory_entry x && same_path (path_of x) path) (xs ++ map (saved_object c) os) ≡ true → list_any (λ x. is_directory_entry x && same_path (path_of x) path) xs ≡ true) → (t || list_any (λ x. is_directory_entry x && same_path (path_of x) path) xs) ≡ true
            by true e rec = refl
            by false e rec = rec e

    within : (ds : List Directory) → list_any (λ x. is_directory_entry x && same_path (path_of x) path) (map (λ d. SavedDirectory d.path) (filter (λ d. not (is_empty d.path)) ds)) ≡ true → list_any (λ x. same_path x.path path) ds ≡ true
    within [] e = e
    within (d ∷ ds) e = by (is_empty d.path) (same_path d.path path) refl e (within ds)
      where
        by : (t s : Bool) → same_path d.path path ≡ s → list_any (λ x. is_directory_entry x && same_path (path_of x) path) (map (λ d. SavedDirectory d.path) (cond (not t) (d ∷ filter (λ d. not (is_empty d.path)) ds) (filter (λ d. not (is_empty d.path)) ds))) ≡ true → (list_any (λ x. is_directory_entry x && same_path (path_of x) path) (map (λ d. SavedDirectory d.path) (filter (λ d. not (is_empty d.path)) ds)) ≡ true → list_any (λ x. same_path x.path path) ds ≡ true) → (s || list_any (λ x. same_path x.path path) ds) ≡ true
        by t true is e rec = refl
        by true false is e rec = rec e
        by false false is e rec = rec (ap (λ s. s || list_any (λ x. is_directory_entry x && same_path (path_of x) path) (map (λ d. SavedDirectory d.path) (filter (λ d. not (is_empty d.path)) ds))) (sym is) ∙ e)

pub parent-there : (d : ℕ) (h : Held) (before : List Saved) (e : Saved) → IsHeld h → saved (held_content d h) ≡ before → has_parent before e ≡ true → list_any (λ x. same_path x.path (parent (path_of e))) h.directories ≡ true
parent-there d h before e held is has = by (is_empty (parent (path_of e))) refl has
  where
    empty : (p : Path) → is_empty p ≡ true → p ≡ []
    empty [] e = refl
    empty (n ∷ p) e = absurd cc

    root : (ds : List Directory) → HasRoot ds → list_any (λ x. same_path x.path []) ds ≡ true
    root [] r = absurd r
    root (x ∷ ds) r = rw (r.0.1) refl

    by : (t : Bool) → is_empty (parent (path_of e)) ≡ t → (t || list_any (λ x. is_directory_entry x && same_path (path_of x) (parent (path_of e))) before) ≡ true → list_any (λ x. same_path x.path (parent (path_of e))) h.directories ≡ true
    by true at-root has = rw (empty (parent (path_of e)) at-root) (root h.directories held.root)
    by false at-root has = any-directory (held_content d h) (parent (path_of e)) (subst (λ es. list_any (λ x. is_directory_entry x && same_path (path_of x) (parent (path_of e))) es ≡ true) (sym is) has)

-- ---- one entry more is saved

module _ {X Y : Type 0} (f : X → Y) where
  pub map-push : (xs : List X) (x : X) → map f (xs ++ x ∷ []) ≡ map f xs ++ f x ∷ []
  map-push [] x = refl
  map-push (y ∷ xs) x = ap (λ rest. f y ∷ rest) (map-push xs x)

pub parent-last : (n : List ℕ) (ns : Path) → parent (n ∷ ns) ++ last_name (n ∷ ns) ∷ [] ≡ n ∷ ns
parent-last n [] = refl
parent-last n (m ∷ ns) = ap (λ rest. n ∷ rest) (parent-last m ns)

-- a later directory changes no path
pub path-stays : (d : ℕ) (h : Held) (path : Path) (n : ℕ) → n < h.next_directory → directory_path (held_content d (with_directory h path)) n ≡ directory_path (held_content d h) n
path-stays d h path n lt =
    let other : eqb h.next_directory n ≡ false = ne_eqb _ _ (λ is. absurd (omega (arith, lt, is))) in
    rw (filter-push (λ x. eqb x.number n) h.directories (record { number = h.next_directory; path = path }), other, append-nil (filter (λ x. eqb x.number n) h.directories)) refl

objects-stay : (d : ℕ) (h : Held) (path : Path) (os : List LiveObject) → AllByRecursion (λ o. o.object.directory < h.next_directory) os
    → map (saved_object (held_content d (with_directory h path))) (filter is_kept os) ≡ map (saved_object (held_content d h)) (filter is_kept os)
objects-stay d h path [] all = refl
objects-stay d h path (o ∷ os) all =
    elim (is_kept o) as (λ b. map (saved_object (held_content d (with_directory h path))) (cond b (o ∷ filter is_kept os) (filter is_kept os)) ≡ map (saved_object (held_content d h)) (cond b (o ∷ filter is_kept os) (filter is_kept os)))
    [ true ↦ (λ i. SavedObject (path-stays d h path o.object.directory all.0 i ++ o.object.name ∷ []) (map saved_line (persistent o.attributes)) ∷ objects-stay d h path os all.1 i) | false ↦ objects-stay d h path os all.1 ]

abbrev pub directories_of : List Directory → List Saved
directories_of ds = map (λ d. SavedDirectory d.path) (filter (λ d. not (is_empty d.path)) ds)

abbrev pub objects_of : Content → List Saved
objects_of c = map (saved_object c) (filter is_kept c.objects)

pub behind-all : (c : Content) (before : List Saved) (e : Saved) → saved c ≡ before → MayFollow before e → list_all (λ x. is_lt (path_cmp (path_of x) (path_of e))) (directories_of c.directories ++ objects_of c) ≡ true
behind-all c before e is follows =
    sym (all-sorted path_cmp path_of (λ x. is_lt (path_cmp (path_of x) (path_of e))) (directories_of c.directories ++ objects_of c)) ∙ ap (list_all (λ x. is_lt (path_cmp (path_of x) (path_of e)))) is ∙ follows.behind

pub record Next (d : ℕ) (h : Held) (before : List Saved) (e : Saved) : Type 0 where
  pub held : IsHeld (restored_held d h e)
  pub saves : saved (held_content d (restored_held d h e)) ≡ before ++ e ∷ []

next-directory : (d longest : ℕ) (h : Held) (before : List Saved) (path : Path) → IsHeld h → saved (held_content d h) ≡ before → IsEntry longest before (SavedDirectory path) → Next d h before (SavedDirectory path)
next-directory d longest h before path held is e =
    let follows = follow-parts before (SavedDirectory path) e.1 in
    let added : Directory = record { number = h.next_directory; path = path } in
    let c = held_content d h in
    let some : is_empty path ≡ false = follows.some in
    let dirs : directories_of (h.directories ++ added ∷ []) ≡ directories_of h.directories ++ SavedDirectory path ∷ [] =
    ap (map (λ d. SavedDirectory d.path)) (filter-push (λ d. not (is_empty d.path)) h.directories added)
    ∙ rw some (map-push (λ (d : Directory). SavedDirectory d.path) (filter (λ d. not (is_empty d.path)) h.directories) added) in
    record {
      held = record {
        directories_rise = rising-at (λ d. d.number) 0 h.next_directory h.directories added refl held.directories_rise;
        objects_rise = held.objects_rise;
        homes = all-weaken (λ o lt. omega (arith, lt)) h.objects held.homes;
        root = root-stays h.directories added held.follow held.root;
        follow = let f = held.follow in omega arith;
      };
      saves =
          (λ i. sorted_by path_cmp path_of (dirs i ++ objects-stay d h path h.objects held.homes i))
          ∙ ap (sorted_by path_cmp path_of) (append_assoc (directories_of h.directories) (SavedDirectory path ∷ []) (objects_of c))
          ∙ sorted-last path_cmp path_of paths_total (SavedDirectory path) (directories_of h.directories) (objects_of c) (behind-all c before (SavedDirectory path) is follows)
          ∙ ap (λ es. es ++ SavedDirectory path ∷ []) is;
    }

next-object : (d longest : ℕ) (h : Held) (before : List Saved) (path : Path) (lines : List SavedLine) → IsHeld h → saved (held_content d h) ≡ before → IsEntry longest before (SavedObject path lines) → Next d h before (SavedObject path lines)
next-object d longest h before [] lines held is e = absurd (let f = (follow-parts before (SavedObject [] []) e.1).some in cc)
next-object d longest h before (n ∷ ns) lines held is e =
    let path = n ∷ ns in
    let follows = follow-parts before (SavedObject path []) e.1 in
    let c = held_content d h in
    let home = home-of d h path held (parent-there d h before (SavedObject path []) held is follows.parent) in
    let o : Object = restored_object c path in
    let where_is : o.directory ≡ home.number = ap (λ n. unwrap_or n 0) home.is in
    let x : saved_object c (known_with o lines) ≡ SavedObject path lines =
    (λ i. SavedObject (directory_path c (where_is i) ++ last_name path ∷ []) (saved-again lines i))
    ∙ ap (λ p. SavedObject (p ++ last_name path ∷ []) lines) home.path_is ∙ ap (λ p. SavedObject p lines) (parent-last n ns) in
    let objs : objects_of (held_content d (with_object h o lines)) ≡ objects_of c ++ SavedObject path lines ∷ [] =
    ap (map (saved_object c)) (filter-push is_kept h.objects (known_with o lines)) ∙ map-push (saved_object c) (filter is_kept h.objects) (known_with o lines) ∙ ap (λ x. objects_of c ++ x ∷ []) x in
    let all = behind-all c before (SavedObject path []) is follows in
    record {
      held = record {
        directories_rise = held.directories_rise;
        objects_rise = rising-at (λ k. k.object.number) 0 h.next_object h.objects (known_with o lines) refl held.objects_rise;
        homes = all-push (λ k. k.object.directory < h.next_directory) h.objects (known_with o lines) held.homes (rw where_is home.below);
        root = held.root;
        follow = held.follow;
      };
      saves =
          ap (λ os. sorted_by path_cmp path_of (directories_of h.directories ++ os)) objs
          ∙ ap (sorted_by path_cmp path_of) (sym (append_assoc (directories_of h.directories) (objects_of c) (SavedObject path lines ∷ [])))
          ∙ sorted-last path_cmp path_of paths_total (SavedObject path lines) (directories_of h.directories ++ objects_of c) []
          (ap (list_all (λ x. is_lt (path_cmp (path_of x) path))) (append-nil (directories_of h.directories ++ objects_of c)) ∙ all)
          ∙ (λ i. sorted_by path_cmp path_of (append-nil (directories_of h.directories ++ objects_of c) i) ++ SavedObject path lines ∷ [])
          ∙ ap (λ es. es ++ SavedObject path lines ∷ []) is;
    }

pub next : (d longest : ℕ) (h : Held) (before : List Saved) (e : Saved) → IsHeld h → saved (held_content d h) ≡ before → IsEntry longest before e → Next d h before e
next d longest h before (SavedDirectory path) = next-directory d longest h before path
next d longest h before (SavedObject path lines) = next-object d longest h before path lines

-- ---- all entries

abbrev pub held_by : ℕ → Held → List Saved → Held
held_by d h [] = h
held_by d h (e ∷ es) = held_by d (restored_held d h e) es

pub record AllHeld (d : ℕ) (h : Held) (before es : List Saved) : Type 0 where
  pub is : fold restored_seen (held_content d h) es ≡ held_content d (held_by d h es)
  pub held : IsHeld (held_by d h es)
  pub saves : saved (held_content d (held_by d h es)) ≡ before ++ es

all-held : (d longest : ℕ) (h : Held) (before es : List Saved) → IsHeld h → saved (held_content d h) ≡ before → AreEntries longest before es → AllHeld d h before es
all-held d longest h before [] held is all = record { is = refl; held = held; saves = is ∙ sym (append-nil before) }
all-held d longest h before (e ∷ es) held is all =
    let one = next d longest h before e held is all.0 in
    let rest = all-held d longest (restored_held d h e) (before ++ e ∷ []) es one.held one.saves all.1 in
    record {
      is = ap (λ c. fold restored_seen c es) (restored-one d longest h before e held all.0) ∙ rest.is;
      held = rest.held;
      saves = rest.saves ∙ append_assoc before (e ∷ []) es;
    }

pub nothing-held : IsHeld nothing
nothing-held = record { directories_rise = (omega arith, omega arith); objects_rise = omega arith; homes = tt; root = ((refl, refl), tt); follow = omega arith }

pub started-held : (longest : ℕ) (i : Image) → AreEntries longest [] i.entries → AllHeld i.default_limit nothing [] i.entries
started-held longest i all = all-held i.default_limit longest nothing [] i.entries nothing-held refl all

pub started-saves : (longest : ℕ) (i : Image) → AreEntries longest [] i.entries → (saved (started_seen i) ≡ i.entries) × ((started_seen i).default_limit ≡ i.default_limit)
started-saves longest i all = let h = started-held longest i all in (ap saved h.is ∙ h.saves, ap (λ c. c.default_limit) h.is)
