-- What stands directly in a directory is what the map of names has there.
use Rattle.std.proofs.Common.{◌≡◌, ◌≤◌, ℕ, suc, ◌+◌, Bool, true, false, cond, not, ◌&&◌, eqb, eqb-true, List, [], ◌∷◌, ◌++◌, map, length, count_by, Option, Some, None, Result, Ok, Err, refl, ap, sym, ◌∙◌, arith}
use Rattle.std.specs.Prelude.{option_map, option_and_then, filter}
use Rattle.std.specs.Option.{option_map_or, option_or}
use Rattle.std.specs.List.{AllByRecursion, filter_map, cons_option}
use Rattle.std.specs.Ordering.{is_eq, eq_by_cmp, ordering_then}
use Rattle.std.specs.declared.cmp.Ordering.{Ordering}
use Rattle.std.specs.declared.cmp.Ordering.TheVariants.{Less, Equal, Greater}
use Rattle.std.specs.FinMap as finite
use Rattle.std.specs.FinMap.{get, entries, entries_sorted, get-entries}
use Rattle.std.specs.FinMap.Entries.{same_entries}
use Rattle.std.specs.Cmp.Lexicographic.{same_text}
use Rattle.std.proofs.lemmas.Cmp.{tied_itself}
use Rattle.std.proofs.lemmas.List.Sums.{length-filter}
use Rattle.pps_types.specs.declared.found.Found.{Found}
use Rattle.pps_types.specs.declared.found.Found.TheVariants.{Object as FoundObject, Directory as FoundDirectory}
use Rattle.pps_types.specs.declared.refusal.Refusal.{Refusal}
use Rattle.pps_types.specs.Checks.{first_refusal, parsed, Refuse, list_checks}
use Rattle.pps_types.specs.Bytes.{same, ◌>>=◌}
use Rattle.pps_types.specs.Names.{Name, Map, Path, name_cmp, path_cmp, same_path, parent, last_name, sorted_by, name_in, members_in, members_of, objects_in, directories_in, is_object, is_directory, refusal_of, list_refusal, find_at}
use Rattle.pps_types.specs.Content.{Directory, LiveObject, Content, at, parent_number, directory_at, object_at, object_in, members, subdirectories}
use Rattle.pps_types.specs.WellFormed.{RiseBetween}
use Rattle.service_laws.proofs.Fits.{Order, Tree}
use Rattle.service_laws.proofs.Trees.{of_name, object-at, same_path-is, path-itself}
use Rattle.service_laws.proofs.Rising.{rising-above}
use Rattle.service_laws.proofs.Finds.{and-both, all-imp, all-both, all-none, all-filter}
use Rattle.alloc_tree.proofs.Orders.{names_total, names_exact}
use Rattle.name_table.specs.Listed.{object_member, directory_member, objects_at, members_at, object_number, suffix, MembersAreListed}
use Rattle.name_table.proofs.Deleted.{at_alive, path_whole}
use Rattle.name_table.proofs.Sorting.{all_map_in, all_map_out, all_append_in, all_append_out, all_passing, all_passed, Rises, AreDistinct, rises_distinct, distinct_append, all_sorted, all_unsorted, sorted_rises, entries_rise, rising_entries, sorted_count, sorted_itself, filter_sorted, map_sorted}

-- ---- the map's part

is_equal : (o : Ordering) → is_eq o ≡ true → o ≡ Equal
is_equal Less e = absurd (let h = e in cc)
is_equal Equal e = refl
is_equal Greater e = absurd (let h = e in cc)

pub equal_names : (a b : Name) → is_eq (name_cmp a b) ≡ true → a ≡ b
equal_names a b e = names_exact a b (is_equal (name_cmp a b) e)

then_equal : (o : Ordering) → is_eq (ordering_then o Equal) ≡ is_eq o
then_equal Less = refl
then_equal Equal = refl
then_equal Greater = refl

then_less : (o : Ordering) → is_eq (ordering_then o Less) ≡ false
then_less Less = refl
then_less Equal = refl
then_less Greater = refl

-- a path is that of a name in a directory where the name is the one that it has there
tied_in : (p q : Path) (a : Name) → eq_by_cmp path_cmp (p ++ a ∷ []) q ≡ option_map_or (λ b. is_eq (name_cmp a b)) (name_in p q) false
tied_in [] [] a = refl
tied_in [] (b ∷ []) a = then_equal (name_cmp a b)
tied_in [] (b ∷ m ∷ q) a = then_less (name_cmp a b)
tied_in (n ∷ p) [] a = refl
tied_in (n ∷ p) (m ∷ q) a = go (name_cmp n m) (tied_in p q a)
  where
    go : (o : Ordering) → eq_by_cmp path_cmp (p ++ a ∷ []) q ≡ option_map_or (λ b. is_eq (name_cmp a b)) (name_in p q) false
        → is_eq (ordering_then o (path_cmp (p ++ a ∷ []) q)) ≡ option_map_or (λ b. is_eq (name_cmp a b)) (cond (is_eq o) (name_in p q) None) false
    go Less rest = refl
    go Equal rest = rest
    go Greater rest = refl

-- what a name leads to there is what its path leads to
find_members : (p : Path) (a : Name) (es : List (Path × Found)) → finite.find name_cmp a (members_in p es) ≡ finite.find path_cmp (p ++ a ∷ []) es
find_members p a [] = refl
find_members p a (e ∷ es) = go (name_in p e.0) (find_members p a es) ∙ ap (λ b. cond b (Some e.1) (finite.find path_cmp (p ++ a ∷ []) es)) (sym (tied_in p e.0 a))
  where
    go : (o : Option Name) → finite.find name_cmp a (members_in p es) ≡ finite.find path_cmp (p ++ a ∷ []) es
        → finite.find name_cmp a (cons_option (option_map (λ n. (n, e.1)) o) (members_in p es)) ≡ cond (option_map_or (λ b. is_eq (name_cmp a b)) o false) (Some e.1) (finite.find path_cmp (p ++ a ∷ []) es)
    go None rest = rest
    go (Some b) rest = ap (λ rest. cond (is_eq (name_cmp a b)) (Some e.1) rest) rest

-- names in a directory are in the order of their paths
names_rise : (p q r : Path) (a b : Name) → path_cmp q r ≡ Less → name_in p q ≡ Some a → name_in p r ≡ Some b → name_cmp a b ≡ Less
names_rise [] [] r a b less e f = absurd (let h = e in cc)
names_rise [] (n ∷ m ∷ q) r a b less e f = absurd (let h = e in cc)
names_rise [] (n ∷ []) [] a b less e f = absurd (let h = f in cc)
names_rise [] (n ∷ []) (m ∷ k ∷ r) a b less e f = absurd (let h = f in cc)
names_rise [] (n ∷ []) (m ∷ []) a b less e f =
    let is : n ≡ a = cc in
    let js : m ≡ b = cc in
    (λ i. name_cmp (sym is i) (sym js i)) ∙ go (name_cmp n m) less
  where
    go : (o : Ordering) → ordering_then o Equal ≡ Less → o ≡ Less
    go Less e = refl
    go Equal e = e
    go Greater e = e
names_rise (k ∷ p) [] r a b less e f = absurd (let h = e in cc)
names_rise (k ∷ p) (n ∷ q) [] a b less e f = absurd (let h = f in cc)
names_rise (k ∷ p) (n ∷ q) (m ∷ r) a b less e f = go (is_eq (name_cmp k n)) refl e (is_eq (name_cmp k m)) refl f (names_rise p q r a b)
  where
    go : (x : Bool) → is_eq (name_cmp k n) ≡ x → cond x (name_in p q) None ≡ Some a → (y : Bool) → is_eq (name_cmp k m) ≡ y → cond y (name_in p r) None ≡ Some b
        → (path_cmp q r ≡ Less → name_in p q ≡ Some a → name_in p r ≡ Some b → name_cmp a b ≡ Less) → name_cmp a b ≡ Less
    go false is e y js f rest = absurd (let h = e in cc)
    go true is e false js f rest = absurd (let h = f in cc)
    go true is e true js f rest =
        let one : k ≡ n = equal_names k n is in
        let other : k ≡ m = equal_names k m js in
        let tied : name_cmp n m ≡ Equal = (λ i. name_cmp (sym one i) (sym other i)) ∙ tied_itself names_total k in
        rest (sym (ap (λ o. ordering_then o (path_cmp q r)) tied) ∙ less) e f

module _ (p q : Path) (a : Name) (is : name_in p q ≡ Some a) where
  members_after : (fs : List (Path × Found)) → AllByRecursion (λ (f : Path × Found). path_cmp q f.0 ≡ Less) fs → AllByRecursion (λ (m : Name × Found). name_cmp a m.0 ≡ Less) (members_in p fs)
  members_after [] all = tt
  members_after (f ∷ fs) all = by (name_in p f.0) refl (members_after fs all.1)
    where
      by : (o : Option Name) → name_in p f.0 ≡ o → AllByRecursion (λ (m : Name × Found). name_cmp a m.0 ≡ Less) (members_in p fs) → AllByRecursion (λ (m : Name × Found). name_cmp a m.0 ≡ Less) (cons_option (option_map (λ n. (n, f.1)) o) (members_in p fs))
      by None js rest = rest
      by (Some b) js rest = (names_rise p q f.0 a b all.0 is js, rest)

members_rise : (p : Path) (es : List (Path × Found)) → Rises path_cmp (λ (e : Path × Found). e.0) es → Rises name_cmp (λ (m : Name × Found). m.0) (members_in p es)
members_rise p [] rise = tt
members_rise p (e ∷ es) rise = go (name_in p e.0) refl (members_rise p es rise.1)
  where
    go : (o : Option Name) → name_in p e.0 ≡ o → Rises name_cmp (λ (m : Name × Found). m.0) (members_in p es) → Rises name_cmp (λ (m : Name × Found). m.0) (cons_option (option_map (λ n. (n, e.1)) o) (members_in p es))
    go None is rest = rest
    go (Some a) is rest = (members_after p e.0 a is es rise.0, rest)

-- ---- paths

parent_pushed : (p : Path) (a : Name) → parent (p ++ a ∷ []) ≡ p
parent_pushed [] a = refl
parent_pushed (n ∷ []) a = refl
parent_pushed (n ∷ m ∷ p) a = ap (λ q. n ∷ q) (parent_pushed (m ∷ p) a)

last_pushed : (p : Path) (a : Name) → last_name (p ++ a ∷ []) ≡ a
last_pushed [] a = refl
last_pushed (n ∷ []) a = refl
last_pushed (n ∷ m ∷ p) a = last_pushed (m ∷ p) a

pushed_not_root : (p : Path) (a : Name) → same_path (p ++ a ∷ []) [] ≡ false
pushed_not_root [] a = refl
pushed_not_root (n ∷ p) a = refl

-- a path directly below another is that with its own last name
child_path : (path q : Path) → (not (same_path q []) && same_path (parent q) path) ≡ true → path ++ last_name q ∷ [] ≡ q
child_path path [] e = absurd (let h = e in cc)
child_path path (n ∷ ns) e = ap (λ p. p ++ last_name (n ∷ ns) ∷ []) (sym (same_path-is (parent (n ∷ ns)) path e)) ∙ path_whole n ns

child_passes : (path : Path) (a : Name) → (not (same_path (path ++ a ∷ []) []) && same_path (parent (path ++ a ∷ [])) path) ≡ true
child_passes path a = (λ i. not (pushed_not_root path a i) && same_path (parent_pushed path a i) path) ∙ path-itself path

-- what has its name in a directory stands there
object_under : (c : Content) (path : Path) (a : Name) (k : ℕ) → parent_number c (path ++ a ∷ []) ≡ Some k → object_at c (path ++ a ∷ []) ≡ object_in c a k
object_under c [] a k e = object-at c a [] k e
object_under c (n ∷ p) a k e = object-at c n (p ++ a ∷ []) k e ∙ ap (λ name. object_in c name k) (last_pushed (n ∷ p) a)

none_under : (c : Content) (path : Path) (a : Name) → parent_number c (path ++ a ∷ []) ≡ None → object_at c (path ++ a ∷ []) ≡ None
none_under c [] a e = ap (λ o. option_and_then (object_in c (last_name (a ∷ []))) o) e
none_under c (n ∷ p) a e = ap (λ o. option_and_then (object_in c (last_name (n ∷ p ++ a ∷ []))) o) e

-- ---- the directory's part

module _ (c : Content) (r : Order c) (t : Tree c) (path : Path) where
  number_above : (a : Name) (o : Option Directory) → directory_at c path ≡ o → parent_number c (path ++ a ∷ []) ≡ option_map (λ (d : Directory). d.number) o
  number_above a o e = ap (λ p. option_map (λ (d : Directory). d.number) (directory_at c p)) (parent_pushed path a) ∙ ap (option_map (λ (d : Directory). d.number)) e

  -- the name leads to it
  abbrev IsAt : Name × Found → Type 0
  IsAt m = at c (path ++ m.0 ∷ []) ≡ Some m.1

  module _ {X : Type 0} (name : X → Name) (number : X → ℕ) (make : ℕ → Found) (one : (a b : ℕ) → make a ≡ make b → a ≡ b) (test : X → Bool) where
    -- what has different numbers has different names
    distinct_names : (low high : ℕ) (xs : List X) → RiseBetween low (map number xs) high → AllByRecursion (λ x. test x ≡ true → IsAt (name x, make (number x))) xs → AreDistinct name_cmp name (filter test xs)
    distinct_names low high [] rise all = tt
    distinct_names low high (x ∷ xs) rise all = by (test x) refl (distinct_names (number x + 1) high xs rise.1 all.1)
      where
        apart : IsAt (name x, make (number x)) → (y : X) → (number x + 1 ≤ number y) × IsAt (name y, make (number y)) → is_eq (name_cmp (name x) (name y)) ≡ false
        apart own y h = go (is_eq (name_cmp (name x) (name y))) refl
          where
            go : (b : Bool) → is_eq (name_cmp (name x) (name y)) ≡ b → b ≡ false
            go false e = refl
            go true e =
                let is : Some (make (number x)) ≡ Some (make (number y)) = sym own ∙ ap (λ n. at c (path ++ n ∷ [])) (equal_names (name x) (name y) e) ∙ h.1 in
                let number_is : number x ≡ number y = one (number x) (number y) (let f : make (number x) ≡ make (number y) = cc in f) in
                absurd (let lt : number x + 1 ≤ number y = h.0 in omega (arith, lt, number_is))

        by : (b : Bool) → test x ≡ b → AreDistinct name_cmp name (filter test xs) → AreDistinct name_cmp name (cond b (x ∷ filter test xs) (filter test xs))
        by false e rest = rest
        by true e rest = (
          all-imp (λ y. (number x + 1 ≤ number y) × IsAt (name y, make (number y))) (λ y. is_eq (name_cmp (name x) (name y)) ≡ false) (apart (all.0 e)) (filter test xs)
              (all-both (λ y. number x + 1 ≤ number y) (λ y. IsAt (name y, make (number y))) (filter test xs)
              (all-filter (λ y. number x + 1 ≤ number y) test xs (rising-above number (number x + 1) high xs rise.1))
              (all_passing (λ y. IsAt (name y, make (number y))) test xs all.1)),
          rest,
        )

  -- ---- objects

  module _ (d : Directory) (stands : directory_at c path ≡ Some d) where
    abbrev lies : LiveObject → Bool
    lies o = eqb o.object.directory d.number

    object_is_at : (o : LiveObject) → object_in c o.object.name o.object.directory ≡ Some o → lies o ≡ true → IsAt (object_member o)
    object_is_at o named here =
        let alive : object_at c (path ++ o.object.name ∷ []) ≡ Some o =
        object_under c path o.object.name d.number (number_above o.object.name (Some d) stands) ∙ ap (object_in c o.object.name) (sym (eqb-true o.object.directory d.number here)) ∙ named in
        at_alive c r t o.object.number o refl (path ++ o.object.name ∷ []) alive

    objects_are_at : AllByRecursion (λ (o : LiveObject). lies o ≡ true → IsAt (object_member o)) c.objects
    objects_are_at = all-imp (λ (o : LiveObject). object_in c o.object.name o.object.directory ≡ Some o) (λ (o : LiveObject). lies o ≡ true → IsAt (object_member o)) object_is_at c.objects t.4

    members_are_at : AllByRecursion (λ (o : LiveObject). IsAt (object_member o)) (members c d.number)
    members_are_at = all_sorted name_cmp (λ (o : LiveObject). o.object.name) (λ (o : LiveObject). IsAt (object_member o)) (filter lies c.objects) (all_passing (λ (o : LiveObject). IsAt (object_member o)) lies c.objects objects_are_at)

    members_rise_in : Rises name_cmp (λ (o : LiveObject). o.object.name) (members c d.number)
    members_rise_in =
        (sorted_rises name_cmp (λ (o : LiveObject). o.object.name) names_total (filter lies c.objects)
        (distinct_names (λ (o : LiveObject). o.object.name) (λ (o : LiveObject). o.object.number) (λ n. FoundObject n) (λ a b e. let is : a ≡ b = cc in is) lies 0 c.next_object c.objects r.1 objects_are_at))

    members_distinct : AreDistinct name_cmp (λ (o : LiveObject). o.object.name) (members c d.number)
    members_distinct = rises_distinct name_cmp (λ (o : LiveObject). o.object.name) (members c d.number) members_rise_in

    -- a name that no member has leads to no object
    members_none : (a : Name) → AllByRecursion (λ (o : LiveObject). is_eq (name_cmp a o.object.name) ≡ false) (members c d.number) → object_at c (path ++ a ∷ []) ≡ None
    members_none a other = object_under c path a d.number (number_above a (Some d) stands) ∙ all-none (of_name a d.number) c.objects (all-imp _ (λ (o : LiveObject). of_name a d.number o ≡ false) each c.objects (all_passed (λ (o : LiveObject). is_eq (name_cmp a o.object.name) ≡ false) lies c.objects (all_unsorted name_cmp (λ (o : LiveObject). o.object.name) (λ (o : LiveObject). is_eq (name_cmp a o.object.name) ≡ false) (filter lies c.objects) other)))
      where
        each : (o : LiveObject) → (lies o ≡ true → is_eq (name_cmp a o.object.name) ≡ false) → of_name a d.number o ≡ false
        each o h = go (of_name a d.number o) refl
          where
            go : (b : Bool) → of_name a d.number o ≡ b → b ≡ false
            go false e = refl
            go true e =
                let both = and-both (eqb o.object.directory d.number) (same o.object.name a) e in
                let is : o.object.name ≡ a = same_text o.object.name a (sym both.1) in
                let tied : is_eq (name_cmp a o.object.name) ≡ true = ap (λ n. is_eq (name_cmp a n)) is ∙ ap is_eq (tied_itself names_total a) in
                absurd (let no = sym tied ∙ h both.0 in cc)

  -- the same, whether a directory stands there or not
  objects_is : (o : Option Directory) → directory_at c path ≡ o → objects_at c path ≡ option_map_or (λ (d : Directory). members c d.number) o []
  objects_is o e = ap (λ o. option_map_or (λ (d : Directory). members c d.number) o []) e

  module _ (P : List LiveObject → Type 0) where
    on_objects : ((d : Directory) → directory_at c path ≡ Some d → P (members c d.number)) → (directory_at c path ≡ None → P []) → P (objects_at c path)
    on_objects some none = go (directory_at c path) refl
      where
        go : (o : Option Directory) → directory_at c path ≡ o → P (option_map_or (λ (d : Directory). members c d.number) o [])
        go None e = none e
        go (Some d) e = some d e

  all_at : AllByRecursion (λ (o : LiveObject). IsAt (object_member o)) (objects_at c path)
  all_at = on_objects (λ os. AllByRecursion (λ (o : LiveObject). IsAt (object_member o)) os) members_are_at (λ e. tt)

  all_distinct : AreDistinct name_cmp (λ (o : LiveObject). o.object.name) (objects_at c path)
  all_distinct = on_objects (λ os. AreDistinct name_cmp (λ (o : LiveObject). o.object.name) os) members_distinct (λ e. tt)

  no_object : (a : Name) → AllByRecursion (λ (o : LiveObject). is_eq (name_cmp a o.object.name) ≡ false) (objects_at c path) → object_at c (path ++ a ∷ []) ≡ None
  no_object a = on_objects (λ os. AllByRecursion (λ (o : LiveObject). is_eq (name_cmp a o.object.name) ≡ false) os → object_at c (path ++ a ∷ []) ≡ None) (λ d e h. members_none d e a h) (λ e h. none_under c path a (number_above a None e))

  -- ---- directories

  abbrev below : Directory → Bool
  below d = not (same_path d.path []) && same_path (parent d.path) path

  abbrev found_directory : Option Directory → Option Found
  found_directory o = option_map (λ (d : Directory). FoundDirectory d.number) o

  directory_is_at : (d : Directory) → directory_at c d.path ≡ Some d → below d ≡ true → IsAt (directory_member d)
  directory_is_at d own here =
      ap (at c) (child_path path d.path here) ∙ ap (λ o. option_or (found_directory o) (option_map (λ (o : LiveObject). FoundObject o.object.number) (object_at c d.path))) own

  directories_are_at : AllByRecursion (λ (d : Directory). below d ≡ true → IsAt (directory_member d)) c.directories
  directories_are_at = all-imp (λ (d : Directory). directory_at c d.path ≡ Some d) (λ (d : Directory). below d ≡ true → IsAt (directory_member d)) directory_is_at c.directories t.2

  subs_are_at : AllByRecursion (λ (d : Directory). IsAt (directory_member d)) (subdirectories c path)
  subs_are_at = all_passing (λ (d : Directory). IsAt (directory_member d)) below c.directories directories_are_at

  subs_distinct : AreDistinct name_cmp (λ (d : Directory). last_name d.path) (subdirectories c path)
  subs_distinct = distinct_names (λ (d : Directory). last_name d.path) (λ (d : Directory). d.number) (λ n. FoundDirectory n) (λ a b e. let is : a ≡ b = cc in is) below 0 c.next_directory c.directories r.2 directories_are_at

  no_directory : (a : Name) → AllByRecursion (λ (d : Directory). is_eq (name_cmp a (last_name d.path)) ≡ false) (subdirectories c path) → directory_at c (path ++ a ∷ []) ≡ None
  no_directory a other = all-none (λ (d : Directory). same_path d.path (path ++ a ∷ [])) c.directories (all-imp _ (λ (d : Directory). same_path d.path (path ++ a ∷ []) ≡ false) each c.directories (all_passed (λ (d : Directory). is_eq (name_cmp a (last_name d.path)) ≡ false) below c.directories other))
    where
      each : (d : Directory) → (below d ≡ true → is_eq (name_cmp a (last_name d.path)) ≡ false) → same_path d.path (path ++ a ∷ []) ≡ false
      each d h = go (same_path d.path (path ++ a ∷ [])) refl
        where
          go : (b : Bool) → same_path d.path (path ++ a ∷ []) ≡ b → b ≡ false
          go false e = refl
          go true e =
              let is : d.path ≡ path ++ a ∷ [] = same_path-is d.path (path ++ a ∷ []) e in
              let passes : below d ≡ true = ap (λ q. not (same_path q []) && same_path (parent q) path) is ∙ child_passes path a in
              let tied : is_eq (name_cmp a (last_name d.path)) ≡ true = ap (λ q. is_eq (name_cmp a (last_name q))) is ∙ ap (λ n. is_eq (name_cmp a n)) (last_pushed path a) ∙ ap is_eq (tied_itself names_total a) in
              absurd (let no = sym tied ∙ h passes in cc)

  -- ---- both

  abbrev key : Name × Found → Name
  key m = m.0

  abbrev parts : List (Name × Found)
  parts = map object_member (objects_at c path) ++ map directory_member (subdirectories c path)

  crossing : (o : LiveObject) → IsAt (object_member o) → (d : Directory) → IsAt (directory_member d) → is_eq (name_cmp o.object.name (last_name d.path)) ≡ false
  crossing o f d g = go (is_eq (name_cmp o.object.name (last_name d.path))) refl
    where
      go : (b : Bool) → is_eq (name_cmp o.object.name (last_name d.path)) ≡ b → b ≡ false
      go false e = refl
      go true e = absurd (let no : Some (FoundObject o.object.number) ≡ Some (FoundDirectory d.number) = sym f ∙ ap (λ n. at c (path ++ n ∷ [])) (equal_names o.object.name (last_name d.path) e) ∙ g in cc)

  distinct_map : {X : Type 0} (f : X → Name × Found) (xs : List X) → AreDistinct name_cmp (λ x. (f x).0) xs → AreDistinct name_cmp key (map f xs)
  distinct_map f [] h = tt
  distinct_map f (x ∷ xs) h = (all_map_in (λ m. is_eq (name_cmp (f x).0 m.0) ≡ false) f xs h.0, distinct_map f xs h.1)

  parts_distinct : AreDistinct name_cmp key parts
  parts_distinct = distinct_append name_cmp key (map object_member (objects_at c path)) (map directory_member (subdirectories c path))
      (distinct_map object_member (objects_at c path) all_distinct) (distinct_map directory_member (subdirectories c path) subs_distinct)
      (all_map_in (λ m. AllByRecursion (λ y. is_eq (name_cmp m.0 y.0) ≡ false) (map directory_member (subdirectories c path))) object_member (objects_at c path)
      (all-imp (λ (o : LiveObject). IsAt (object_member o)) (λ (o : LiveObject). AllByRecursion (λ y. is_eq (name_cmp o.object.name y.0) ≡ false) (map directory_member (subdirectories c path)))
      (λ o f. all_map_in (λ y. is_eq (name_cmp o.object.name y.0) ≡ false) directory_member (subdirectories c path) (all-imp (λ (d : Directory). IsAt (directory_member d)) (λ (d : Directory). is_eq (name_cmp o.object.name (last_name d.path)) ≡ false) (crossing o f) (subdirectories c path) subs_are_at))
      (objects_at c path) all_at))

  listed_at : AllByRecursion IsAt (members_at c path)
  listed_at = all_sorted name_cmp key IsAt parts (all_append_in IsAt (map object_member (objects_at c path)) (map directory_member (subdirectories c path)) (all_map_in IsAt object_member (objects_at c path) all_at) (all_map_in IsAt directory_member (subdirectories c path) subs_are_at))

  found_listed : (a : Name) (f : Found) (ms : List (Name × Found)) → AllByRecursion IsAt ms → finite.find name_cmp a ms ≡ Some f → at c (path ++ a ∷ []) ≡ Some f
  found_listed a f [] all e = absurd (let h = e in cc)
  found_listed a f (m ∷ ms) all e = go (is_eq (name_cmp a m.0)) refl e (found_listed a f ms all.1)
    where
      go : (b : Bool) → is_eq (name_cmp a m.0) ≡ b → cond b (Some m.1) (finite.find name_cmp a ms) ≡ Some f → (finite.find name_cmp a ms ≡ Some f → at c (path ++ a ∷ []) ≡ Some f) → at c (path ++ a ∷ []) ≡ Some f
      go true is e rest = ap (λ n. at c (path ++ n ∷ [])) (equal_names a m.0 is) ∙ all.0 ∙ e
      go false is e rest = rest e

  none_listed : (a : Name) (ms : List (Name × Found)) → finite.find name_cmp a ms ≡ None → AllByRecursion (λ (m : Name × Found). is_eq (name_cmp a m.0) ≡ false) ms
  none_listed a [] e = tt
  none_listed a (m ∷ ms) e = go (is_eq (name_cmp a m.0)) refl e (none_listed a ms)
    where
      go : (b : Bool) → is_eq (name_cmp a m.0) ≡ b → cond b (Some m.1) (finite.find name_cmp a ms) ≡ None → (finite.find name_cmp a ms ≡ None → AllByRecursion (λ (m : Name × Found). is_eq (name_cmp a m.0) ≡ false) ms) → (is_eq (name_cmp a m.0) ≡ false) × AllByRecursion (λ (m : Name × Found). is_eq (name_cmp a m.0) ≡ false) ms
      go true is e rest = absurd (let h = e in cc)
      go false is e rest = (is, rest e)

  nothing_at : (a : Name) → finite.find name_cmp a (members_at c path) ≡ None → at c (path ++ a ∷ []) ≡ None
  nothing_at a e =
      let Other = λ (m : Name × Found). is_eq (name_cmp a m.0) ≡ false in
      let split = all_append_out Other (map object_member (objects_at c path)) (map directory_member (subdirectories c path)) (all_unsorted name_cmp key Other parts (none_listed a (members_at c path) e)) in
      λ i. option_or (found_directory (no_directory a (all_map_out Other directory_member (subdirectories c path) split.1) i)) (option_map (λ (o : LiveObject). FoundObject o.object.number) (no_object a (all_map_out Other object_member (objects_at c path) split.0) i))

  find_listed : (a : Name) → finite.find name_cmp a (members_at c path) ≡ at c (path ++ a ∷ [])
  find_listed a = go (finite.find name_cmp a (members_at c path)) refl
    where
      go : (o : Option Found) → finite.find name_cmp a (members_at c path) ≡ o → finite.find name_cmp a (members_at c path) ≡ at c (path ++ a ∷ [])
      go None e = e ∙ sym (nothing_at a e)
      go (Some f) e = e ∙ sym (found_listed a f (members_at c path) listed_at e)

  pub members_are : (m : Map) → ((p : Path) → get m p ≡ at c p) → members_of m path ≡ members_at c path
  members_are m names = same_entries name_cmp names_total names_exact (members_in path (entries m)) (members_at c path)
      (rising_entries name_cmp (members_in path (entries m)) (members_rise path (entries m) (entries_rise path_cmp (entries m) (entries_sorted m))))
      (rising_entries name_cmp (members_at c path) (sorted_rises name_cmp key names_total parts parts_distinct))
      (λ a. find_members path a (entries m) ∙ sym (get-entries m (path ++ a ∷ [])) ∙ names (path ++ a ∷ []) ∙ sym (find_listed a))

  -- ---- how many

  counted : (test : Found → Bool) → length (filter (λ (m : Name × Found). test m.1) (members_at c path)) ≡ length (filter (λ (m : Name × Found). test m.1) parts)
  counted test = sorted_count name_cmp key (λ (m : Name × Found). test m.1) parts

  only_objects : (os : List LiveObject) (ds : List Directory) → length (filter (λ (m : Name × Found). is_object m.1) (map object_member os ++ map directory_member ds)) ≡ length os
  only_objects [] [] = refl
  only_objects [] (d ∷ ds) = only_objects [] ds
  only_objects (o ∷ os) ds = ap (λ n. suc n) (only_objects os ds)

  only_directories : (os : List LiveObject) (ds : List Directory) → length (filter (λ (m : Name × Found). is_directory m.1) (map object_member os ++ map directory_member ds)) ≡ length ds
  only_directories [] [] = refl
  only_directories [] (d ∷ ds) = ap (λ n. suc n) (only_directories [] ds)
  only_directories (o ∷ os) ds = only_directories os ds

  pub objects_counted : (m : Map) → ((p : Path) → get m p ≡ at c p) → objects_in m path ≡ length (objects_at c path)
  objects_counted m names =
      ap (count_by (λ (m : Name × Found). is_object m.1)) (members_are m names) ∙ sym (length-filter (λ (m : Name × Found). is_object m.1) (members_at c path)) ∙ counted is_object ∙ only_objects (objects_at c path) (subdirectories c path)

  pub directories_counted : (m : Map) → ((p : Path) → get m p ≡ at c p) → directories_in m path ≡ length (subdirectories c path)
  directories_counted m names =
      ap (count_by (λ (m : Name × Found). is_directory m.1)) (members_are m names) ∙ sym (length-filter (λ (m : Name × Found). is_directory m.1) (members_at c path)) ∙ counted is_directory ∙ only_directories (objects_at c path) (subdirectories c path)

  -- ---- objects alone

  filter_objects : (os : List LiveObject) (ds : List Directory) → filter (λ (m : Name × Found). is_object m.1) (map object_member os ++ map directory_member ds) ≡ map object_member os
  filter_objects [] [] = refl
  filter_objects [] (d ∷ ds) = filter_objects [] ds
  filter_objects (o ∷ os) ds = ap (λ ms. object_member o ∷ ms) (filter_objects os ds)

  numbers_passing : (ms : List (Name × Found)) → filter_map (λ (m : Name × Found). object_number m.1) ms ≡ filter_map (λ (m : Name × Found). object_number m.1) (filter (λ (m : Name × Found). is_object m.1) ms)
  numbers_passing [] = refl
  numbers_passing (m ∷ ms) = go m.1 (numbers_passing ms)
    where
      go : (f : Found) → filter_map (λ (m : Name × Found). object_number m.1) ms ≡ filter_map (λ (m : Name × Found). object_number m.1) (filter (λ (m : Name × Found). is_object m.1) ms)
          → cons_option (object_number f) (filter_map (λ (m : Name × Found). object_number m.1) ms) ≡ filter_map (λ (m : Name × Found). object_number m.1) (cond (is_object f) ((m.0, f) ∷ filter (λ (m : Name × Found). is_object m.1) ms) (filter (λ (m : Name × Found). is_object m.1) ms))
      go (FoundObject n) rest = ap (λ ns. n ∷ ns) rest
      go (FoundDirectory n) rest = rest

  numbers_mapped : (os : List LiveObject) → filter_map (λ (m : Name × Found). object_number m.1) (map object_member os) ≡ map (λ (o : LiveObject). o.object.number) os
  numbers_mapped [] = refl
  numbers_mapped (o ∷ os) = ap (λ ns. o.object.number ∷ ns) (numbers_mapped os)

  objects_rise : Rises name_cmp (λ (o : LiveObject). o.object.name) (objects_at c path)
  objects_rise = on_objects (λ os. Rises name_cmp (λ (o : LiveObject). o.object.name) os) members_rise_in (λ e. tt)

  rises_map : (os : List LiveObject) → Rises name_cmp (λ (o : LiveObject). o.object.name) os → Rises name_cmp key (map object_member os)
  rises_map [] r = tt
  rises_map (o ∷ os) r = (all_map_in (λ (m : Name × Found). name_cmp o.object.name m.0 ≡ Less) object_member os r.0, rises_map os r.1)

  -- the numbers of its objects, in byte order of names
  pub numbers_are : filter_map (λ (m : Name × Found). object_number m.1) (members_at c path) ≡ map (λ (o : LiveObject). o.object.number) (objects_at c path)
  numbers_are =
      numbers_passing (members_at c path)
      ∙ ap (filter_map (λ (m : Name × Found). object_number m.1))
      (filter_sorted name_cmp key names_total (λ (m : Name × Found). is_object m.1) parts parts_distinct
      ∙ ap (sorted_by name_cmp key) (filter_objects (objects_at c path) (subdirectories c path))
      ∙ sorted_itself name_cmp key (map object_member (objects_at c path)) (rises_map (objects_at c path) objects_rise))
      ∙ numbers_mapped (objects_at c path)

-- ---- in a listing

abbrev shown : Name × Found → List ℕ × List ℕ
shown m = (m.0, suffix (is_directory m.1))

shown_parts : (os : List LiveObject) (ds : List Directory) → map shown (map object_member os ++ map directory_member ds) ≡ map (λ (o : LiveObject). (o.object.name, suffix false)) os ++ map (λ (d : Directory). (last_name d.path, suffix true)) ds
shown_parts [] [] = refl
shown_parts [] (d ∷ ds) = ap (λ es. (last_name d.path, suffix true) ∷ es) (shown_parts [] ds)
shown_parts (o ∷ os) ds = ap (λ es. (o.object.name, suffix false) ∷ es) (shown_parts os ds)

pub members_listed : MembersAreListed
members_listed c path =
    map_sorted name_cmp (λ (e : List ℕ × List ℕ). e.0) shown (map object_member (objects_at c path) ++ map directory_member (subdirectories c path))
    ∙ ap (sorted_by name_cmp (λ (e : List ℕ × List ℕ). e.0)) (shown_parts (objects_at c path) (subdirectories c path))

-- what refuses a listing of the map is what a listing is checked for
pub list_checked : (r : Result Found Refusal) → refusal_of (r >>= (λ found. cond (is_object found) (Err Refusal.NotDirectory) (Ok found))) ≡ first_refusal (parsed r (λ found. Refuse (is_object found) Refusal.NotDirectory ∷ []))
list_checked (Err e) = refl
list_checked (Ok (FoundObject n)) = refl
list_checked (Ok (FoundDirectory n)) = refl

pub list_refused : (c : Content) (m : Map) → ((p : Path) → get m p ≡ at c p) → (path : Path) → list_refusal m path ≡ first_refusal (list_checks c path)
list_refused c m names path =
    ap (λ f. refusal_of (find_at f path >>= (λ found. cond (is_object found) (Err Refusal.NotDirectory) (Ok found)))) (λ i p. names p i) ∙ list_checked (find_at (at c) path)
