-- What an image starts is within the bounds, and can be saved.
use Rattle.std.proofs.Common.{◌≡◌, ℕ, suc, ◌+◌, ◌≤◌, ◌<◌, Bool, true, false, cond, not, ◌&&◌, eqb, List, [], ◌∷◌, ◌++◌, length, map, refl, sym, ap, subst, ◌∙◌, append_assoc, length-append, arith}
use Rattle.std.specs.Prelude.{filter, unwrap_or}
use Rattle.std.specs.List.{list_all, AllByRecursion}
use Rattle.std.specs.Ordering.{is_lt}
use Rattle.std.proofs.lemmas.Bool.{and_parts, and_from, eqb-true, not-true}
use Rattle.std.proofs.lemmas.List.Folds.{list_all-append}
use Rattle.pps_types.specs.Bytes.{is_empty}
use Rattle.pps_types.specs.Text.{print_lines}
use Rattle.pps_types.specs.Names.{Path, same_path, parent, last_name, path_cmp}
use Rattle.pps_types.specs.OpenText.{are_names}
use Rattle.pps_types.specs.History.{line_of}
use Rattle.pps_types.specs.Content.{Object, Directory, LiveObject, Content, subdirectories}
use Rattle.pps_types.specs.WellFormed.{IsContent}
use Rattle.pps_types.specs.Image.{SavedLine, Saved, SavedDirectory, SavedObject, path_of, as_line, saved_line, directory_path, is_kept, saved_object, saved, Image, same_sort, are_beside, may_follow, AreFollowing, IsImage, restored_object, restored_seen, started_seen}
use Rattle.pps_types.proofs.Lists.{all-push, fold-push, append-nil}
use Rattle.service_laws.proofs.Trees.{same_path-is, path-itself}
use Rattle.service_laws.proofs.ImageStarts.{started-content}
use Rattle.service_laws.specs.Bounds.{IsBoundObject, crowd, IsBound}
use Rattle.image_laws.specs.Images.{is_new, AreLines, IsSavedPath}
use Rattle.image_laws.specs.Savable.{object_path, AreAttributes, AreSavable, CanBeSaved}
use Rattle.image_laws.proofs.Good.{IsEntry, AreEntries, IsGood}
use Rattle.service_laws.proofs.PathEnds.{parent-push}
use Rattle.service_laws.proofs.BoundedPaths.{last-short}
use Rattle.image_laws.proofs.Paths.{names-of}
use Rattle.image_laws.proofs.Entries.{MayFollow, follow-parts}
use Rattle.image_laws.proofs.Printed.{count-push}
use Rattle.image_laws.proofs.Sorting.{count-sorted}
use Rattle.image_laws.proofs.Started.{Held, held_content, nothing, restored_attribute, known_with, with_directory, restored_held, IsHeld, restored-one, next, nothing-held, home-of, parent-there, path-stays, behind-all, directories_of, objects_of, map-push, parent-last, held_by}
use Rattle.image_laws.proofs.Sorted.{lt-other}
use Rattle.image_laws.proofs.Saving.{count-append, all-pass}

-- ---- names and texts

name-short : (path : Path) → are_names path ≡ true → length (last_name path) ≤ 255
name-short path h = last-short path (names-of path h)

pub text-same : (lines : List SavedLine) → map line_of (map restored_attribute lines) ≡ map as_line lines
text-same [] = refl
text-same (l ∷ lines) = ap (λ rest. as_line l ∷ rest) (text-same lines)

pub text-fits : (longest : ℕ) (before lines : List SavedLine) → length (print_lines (map as_line before)) ≤ longest → AreLines longest before lines → length (print_lines (map as_line (before ++ lines))) ≤ longest
text-fits longest before [] le h = subst (λ ls. length (print_lines (map as_line ls)) ≤ longest) (sym (append-nil before)) le
text-fits longest before (l ∷ lines) le h = subst (λ ls. length (print_lines (map as_line ls)) ≤ longest) (append_assoc before (l ∷ []) lines) (text-fits longest (before ++ l ∷ []) lines h.2 h.3)

saved-map : (before : List SavedLine) → map saved_line (map restored_attribute before) ≡ before
saved-map [] = refl
saved-map (l ∷ before) = ap (λ rest. l ∷ rest) (saved-map before)

attributes-are : (longest : ℕ) (before lines : List SavedLine) → AreLines longest before lines → AreAttributes (map restored_attribute before) (map restored_attribute lines)
attributes-are longest before [] h = tt
attributes-are longest before (l ∷ lines) h =
    (h.0, subst (λ b. is_new b l ≡ true) (sym (saved-map before)) h.1, subst (λ b. AreAttributes b (map restored_attribute lines)) (map-push restored_attribute before l) (attributes-are longest (before ++ l ∷ []) lines h.3))

pub same-length : (lines : List SavedLine) → length (map restored_attribute lines) ≡ length lines
same-length [] = refl
same-length (l ∷ lines) = ap suc (same-length lines)

-- ---- no fewer

more-directories : (p : Saved → Bool) (t : Directory → Bool) → ((d : Directory) → t d ≡ true → (p (SavedDirectory d.path) ≡ true) × (is_empty d.path ≡ false)) → (ds : List Directory) → length (filter t ds) ≤ length (filter p (directories_of ds))
more-directories p t f [] = omega arith
more-directories p t f (d ∷ ds) = by (t d) refl (is_empty d.path) (p (SavedDirectory d.path)) refl refl (more-directories p t f ds)
  where
    by : (b : Bool) → t d ≡ b → (r a : Bool) → is_empty d.path ≡ r → p (SavedDirectory d.path) ≡ a → length (filter t ds) ≤ length (filter p (directories_of ds))
        → length (cond b (d ∷ filter t ds) (filter t ds)) ≤ length (filter p (map (λ (d : Directory). SavedDirectory d.path) (cond (not r) (d ∷ filter (λ d. not (is_empty d.path)) ds) (filter (λ d. not (is_empty d.path)) ds))))
    by false y true a root x h = h
    by false y false true root x h = rw x (omega arith)
    by false y false false root x h = rw x h
    by true y true a root x h = absurd (let e = sym root ∙ (f d y).1 in cc)
    by true y false true root x h = rw x (omega arith)
    by true y false false root x h = absurd (let e = sym x ∙ (f d y).0 in cc)

more-objects : (c : Content) (p : Saved → Bool) (t : LiveObject → Bool) (os : List LiveObject) → AllByRecursion (λ o. is_kept o ≡ true) os → AllByRecursion (λ o. t o ≡ true → p (saved_object c o) ≡ true) os → length (filter t os) ≤ length (filter p (objects_of (record c { objects = os })))
more-objects c p t [] kept f = omega arith
more-objects c p t (o ∷ os) kept f = rw (kept.0) (by (t o) refl (p (saved_object c o)) refl f.0 (more-objects c p t os kept.1 f.1))
  where
    by : (b : Bool) → t o ≡ b → (a : Bool) → p (saved_object c o) ≡ a → (t o ≡ true → p (saved_object c o) ≡ true) → length (filter t os) ≤ length (filter p (map (saved_object c) (filter is_kept os)))
        → length (cond b (o ∷ filter t os) (filter t os)) ≤ length (cond a (saved_object c o ∷ filter p (map (saved_object c) (filter is_kept os))) (filter p (map (saved_object c) (filter is_kept os))))
    by false y true x f h = omega arith
    by false y false x f h = h
    by true y true x f h = omega arith
    by true y false x f h = absurd (let e = sym x ∙ f y in cc)

-- ---- other paths

-- what is less is another, either way
record IsOther (p x : Path) : Type 0 where
  pub front : not (same_path p x) ≡ true
  pub back : not (same_path x p) ≡ true

other-sym : (p x : Path) → same_path x p ≡ false → IsOther p x
other-sym p x h = record { front = by (same_path p x) refl; back = ap not h }
  where
    by : (t : Bool) → same_path p x ≡ t → not (same_path p x) ≡ true
    by false e = ap not e
    by true e = absurd (let s = sym (path-itself x) ∙ ap (same_path x) (sym (same_path-is p x e)) ∙ h in cc)

other-less : (p x : Path) → is_lt (path_cmp p x) ≡ true → IsOther p x
other-less p x lt = other-sym p x (lt-other p x lt)

pub other-directories : (x : Path) (ds : List Directory) → is_empty x ≡ false → list_all (λ e. is_lt (path_cmp (path_of e) x)) (directories_of ds) ≡ true → list_all (λ q. not (same_path q x)) (map (λ d. d.path) ds) ≡ true
other-directories x [] some h = refl
other-directories x (d ∷ ds) some h = by (is_empty d.path) refl h (other-directories x ds some)
  where
    root : (p : Path) → is_empty p ≡ true → not (same_path p x) ≡ true
    root p e = (other-sym p x (apart p x e some)).front
      where
        apart : (p x : Path) → is_empty p ≡ true → is_empty x ≡ false → same_path x p ≡ false
        apart [] [] e f = absurd cc
        apart [] (n ∷ x) e f = refl
        apart (n ∷ p) x e f = absurd cc

    by : (r : Bool) → is_empty d.path ≡ r → list_all (λ e. is_lt (path_cmp (path_of e) x)) (map (λ (d : Directory). SavedDirectory d.path) (cond (not r) (d ∷ filter (λ d. not (is_empty d.path)) ds) (filter (λ d. not (is_empty d.path)) ds))) ≡ true
        → (list_all (λ e. is_lt (path_cmp (path_of e) x)) (directories_of ds) ≡ true → list_all (λ q. not (same_path q x)) (map (λ d. d.path) ds) ≡ true) → list_all (λ q. not (same_path q x)) (map (λ d. d.path) (d ∷ ds)) ≡ true
    by true is h rec = and_from _ _ (root d.path is) (rec h)
    by false is h rec =
        let parts = and_parts (is_lt (path_cmp d.path x)) (list_all (λ e. is_lt (path_cmp (path_of e) x)) (directories_of ds)) h in
        and_from _ _ (other-less d.path x parts.0).front (rec parts.1)

pub other-objects : (c : Content) (x : Path) (os : List LiveObject) → AllByRecursion (λ o. is_kept o ≡ true) os → list_all (λ e. is_lt (path_cmp (path_of e) x)) (objects_of (record c { objects = os })) ≡ true
    → (list_all (λ q. not (same_path q x)) (map (object_path c) os) ≡ true) × (list_all (λ q. not (same_path x q)) (map (object_path c) os) ≡ true)
other-objects c x [] kept h = (refl, refl)
other-objects c x (o ∷ os) kept h =
    let less : list_all (λ e. is_lt (path_cmp (path_of e) x)) (saved_object c o ∷ map (saved_object c) (filter is_kept os)) ≡ true = rw (kept.0) at h in
    let parts = and_parts (is_lt (path_cmp (object_path c o) x)) (list_all (λ e. is_lt (path_cmp (path_of e) x)) (map (saved_object c) (filter is_kept os))) less in
    let rest = other-objects c x os kept.1 parts.1 in
    (and_from _ _ (other-less (object_path c o) x parts.0).front rest.0, and_from _ _ (other-less (object_path c o) x parts.0).back rest.1)

-- ---- one entry more

pub record IsFine (d : ℕ) (h : Held) (before : List Saved) : Type 0 where
  pub held : IsHeld h
  pub saves : saved (held_content d h) ≡ before
  pub bound : IsBound (held_content d h)
  pub can : CanBeSaved (held_content d h)
  pub follows : IsImage (record { default_limit = d; entries = before })
  pub starts : started_seen (record { default_limit = d; entries = before }) ≡ held_content d h
  pub kept : AllByRecursion (λ o. is_kept o ≡ true) h.objects
  pub counted : length h.directories ≡ length (filter (λ d. not (is_empty d.path)) h.directories) + 1

-- all that is there comes before
pub less-all : (c : Content) (before : List Saved) (e : Saved) → saved c ≡ before → MayFollow before e → (list_all (λ x. is_lt (path_cmp (path_of x) (path_of e))) (directories_of c.directories) ≡ true) × (list_all (λ x. is_lt (path_cmp (path_of x) (path_of e))) (objects_of c) ≡ true)
less-all c before e is follows =
    and_parts (list_all (λ x. is_lt (path_cmp (path_of x) (path_of e))) (directories_of c.directories)) (list_all (λ x. is_lt (path_cmp (path_of x) (path_of e))) (objects_of c))
    (sym (list_all-append (λ x. is_lt (path_cmp (path_of x) (path_of e))) (directories_of c.directories) (objects_of c)) ∙ behind-all c before e is follows)

-- how many there are, of what is saved
pub count-saved : (c : Content) (before : List Saved) (p : Saved → Bool) → saved c ≡ before → length (filter p before) ≡ length (filter p (directories_of c.directories)) + length (filter p (objects_of c))
count-saved c before p is = ap (λ es. length (filter p es)) (sym is) ∙ count-sorted path_cmp path_of p (directories_of c.directories ++ objects_of c) ∙ count-append p (directories_of c.directories) (objects_of c)

paths-stay : (d : ℕ) (h : Held) (path : Path) (os : List LiveObject) → AllByRecursion (λ o. o.object.directory < h.next_directory) os → AllByRecursion (λ o. IsSavedPath (object_path (held_content d h) o)) os → AllByRecursion (λ o. IsSavedPath (object_path (held_content d (with_directory h path)) o)) os
paths-stay d h path [] all paths = tt
paths-stay d h path (o ∷ os) all paths = (subst (λ p. IsSavedPath (p ++ o.object.name ∷ [])) (sym (path-stays d h path o.object.directory all.0)) paths.0, paths-stay d h path os all.1 paths.1)

not-root-is : (p : Path) → not (same_path p []) ≡ true → is_empty p ≡ false
not-root-is [] h = absurd cc
not-root-is (n ∷ p) h = refl

following-push : (before es : List Saved) (e : Saved) → AreFollowing before es → may_follow (before ++ es) e ≡ true → AreFollowing before (es ++ e ∷ [])
following-push before [] e all follows = (subst (λ xs. may_follow xs e ≡ true) (append-nil before) follows, tt)
following-push before (x ∷ es) e all follows = (all.0, following-push (before ++ x ∷ []) es e all.1 (subst (λ xs. may_follow xs e ≡ true) (sym (append_assoc before (x ∷ []) es)) follows))

starts-next : (d : ℕ) (h : Held) (before : List Saved) (e : Saved) → IsHeld h → started_seen (record { default_limit = d; entries = before }) ≡ held_content d h → IsEntry 65536 before e
    → started_seen (record { default_limit = d; entries = before ++ e ∷ [] }) ≡ held_content d (restored_held d h e)
starts-next d h before e held is entry = fold-push restored_seen (held_content d nothing) before e ∙ ap (λ c. restored_seen c e) is ∙ restored-one d 65536 h before e held entry

pub fine-content : (d : ℕ) (h : Held) (before : List Saved) → IsFine d h before → IsContent (held_content d h)
fine-content d h before fine = subst IsContent fine.starts (started-content (record { default_limit = d; entries = before }) fine.follows)

fine-directory : (d : ℕ) (h : Held) (before : List Saved) (path : Path) → IsFine d h before → IsEntry 65536 before (SavedDirectory path) → IsFine d (with_directory h path) (before ++ SavedDirectory path ∷ [])
fine-directory d h before path fine e =
    let c = held_content d h in
    let entry = SavedDirectory path in
    let added : Directory = record { number = h.next_directory; path = path } in
    let follows = follow-parts before entry e.1 in
    let step = next d 65536 h before entry fine.held fine.saves e in
    let bound = fine.bound in
    let can = fine.can in
    let is_some : is_empty path ≡ false = follows.some in
    let nonroot = count-push (λ (x : Directory). not (is_empty x.path)) h.directories added in
    let pushed : length (filter (λ (x : Directory). not (is_empty x.path)) (h.directories ++ added ∷ [])) ≡ length (filter (λ (x : Directory). not (is_empty x.path)) h.directories) + 1 = nonroot ∙ rw is_some refl in
    let longer = length-append h.directories (added ∷ []) in
    let all_dirs = more-directories (same_sort entry) (λ x. not (is_empty x.path)) (λ x t. (refl, not-true (is_empty x.path) t)) h.directories in
    let total = count-saved c before (same_sort entry) fine.saves in
    let room = follows.all in
    let counted = fine.counted in
    record {
      held = step.held;
      saves = step.saves;
      bound = record {
        handles_end = bound.handles_end;
        objects = bound.objects;
        crowds = bound.crowds;
        directories = all-push (λ x. length (last_name x.path) ≤ 255) h.directories added bound.directories (name-short path e.0.0);
        branches = λ p. branch p (count-push (λ (x : Directory). not (same_path x.path []) && same_path (parent x.path) p) h.directories added);
        handles = tt;
        queues = tt;
      };
      can = record {
        least = can.least;
        most = can.most;
        paths = all-push (λ x. IsSavedPath x.path) h.directories added can.paths e.0;
        object_paths = paths-stay d h path h.objects fine.held.homes can.object_paths;
        attributes = can.attributes;
        directories = omega arith;
        objects = can.objects;
      };
      follows = following-push [] before entry fine.follows e.1;
      starts = starts-next d h before entry fine.held fine.starts e;
      kept = fine.kept;
      counted = omega arith;
    }
  where
    branch : (p : Path) → length (subdirectories (held_content d (with_directory h path)) p) ≡ length (subdirectories (held_content d h) p) + cond (not (same_path path []) && same_path (parent path) p) 1 0 → length (subdirectories (held_content d (with_directory h path)) p) ≤ 256
    branch p is = by (not (same_path path []) && same_path (parent path) p) refl is
      where
        entry : Saved
        entry = SavedDirectory path

        room : same_path (parent path) p ≡ true → length (subdirectories (held_content d h) p) < 256
        room here =
            let q : parent path ≡ p = same_path-is (parent path) p here in
            let fewer = more-directories (are_beside (SavedDirectory path)) (λ x. not (same_path x.path []) && same_path (parent x.path) p)
            (λ x t. let b = and_parts (not (same_path x.path [])) (same_path (parent x.path) p) t in (subst (λ q. same_path (parent x.path) q ≡ true) (sym q) b.1, not-root-is x.path b.0)) h.directories in
            let total = count-saved (held_content d h) before (are_beside (SavedDirectory path)) fine.saves in
            let few = (follow-parts before (SavedDirectory path) e.1).beside in
            omega arith

        by : (t : Bool) → (not (same_path path []) && same_path (parent path) p) ≡ t → length (subdirectories (held_content d (with_directory h path)) p) ≡ length (subdirectories (held_content d h) p) + cond t 1 0 → length (subdirectories (held_content d (with_directory h path)) p) ≤ 256
        by true here is = let f = room (and_parts (not (same_path path [])) (same_path (parent path) p) here).1 in omega arith
        by false here is = let f = fine.bound.branches p in omega arith

fine-object : (d : ℕ) (h : Held) (before : List Saved) (n : List ℕ) (ns : Path) (lines : List SavedLine) → IsFine d h before → IsEntry 65536 before (SavedObject (n ∷ ns) lines)
    → IsFine d (restored_held d h (SavedObject (n ∷ ns) lines)) (before ++ SavedObject (n ∷ ns) lines ∷ [])
fine-object d h before n ns lines fine e =
    let path = n ∷ ns in
    let c = held_content d h in
    let entry = SavedObject path lines in
    let follows = follow-parts before (SavedObject path []) e.1 in
    let step = next d 65536 h before entry fine.held fine.saves e in
    let bound = fine.bound in
    let can = fine.can in
    let home = home-of d h path fine.held (parent-there d h before (SavedObject path []) fine.held fine.saves follows.parent) in
    let o : Object = restored_object c path in
    let k = known_with o lines in
    let where_is : o.directory ≡ home.number = ap (λ n. unwrap_or n 0) home.is in
    let path_is : object_path c k ≡ path = (λ i. directory_path c (where_is i) ++ last_name path ∷ []) ∙ ap (λ p. p ++ last_name path ∷ []) home.path_is ∙ parent-last n ns in
    let longer = length-append h.objects (k ∷ []) in
    let all_objects = more-objects c (same_sort (SavedObject path [])) (λ x. true) h.objects fine.kept (any-sort c path h.objects) in
    let all_pass = all-pass h.objects in
    let total = count-saved c before (same_sort (SavedObject path [])) fine.saves in
    let room = follows.all in
    record {
      held = step.held;
      saves = step.saves;
      bound = record {
        handles_end = bound.handles_end;
        objects = all-push IsBoundObject h.objects k bound.objects (name-short path e.0.0, subst (λ ls. length (print_lines ls) ≤ 65536) (sym (text-same lines)) (text-fits 65536 [] lines (omega arith) e.3));
        crowds = λ m. crowds m (count-push (λ (x : LiveObject). eqb x.object.directory m) h.objects k) (λ here. subst (λ p. p ≡ parent path) (ap (directory_path c) (sym where_is ∙ here)) home.path_is);
        directories = bound.directories;
        branches = bound.branches;
        handles = tt;
        queues = tt;
      };
      can = record {
        least = can.least;
        most = can.most;
        paths = can.paths;
        object_paths = all-push (λ x. IsSavedPath (object_path c x)) h.objects k can.object_paths (subst IsSavedPath (sym path_is) e.0);
        attributes = all-push (λ x. AreSavable x.attributes) h.objects k can.attributes (attributes-are 65536 [] lines e.3, subst (λ m. m ≤ 1024) (sym (same-length lines)) e.2);
        directories = can.directories;
        objects = omega arith;
      };
      follows = following-push [] before entry fine.follows e.1;
      starts = starts-next d h before entry fine.held fine.starts e;
      kept = all-push (λ x. is_kept x ≡ true) h.objects k fine.kept refl;
      counted = fine.counted;
    }
  where
    any-sort : (c : Content) (path : Path) (os : List LiveObject) → AllByRecursion (λ (o : LiveObject). true ≡ true → same_sort (SavedObject path []) (saved_object c o) ≡ true) os
    any-sort c path [] = tt
    any-sort c path (o ∷ os) = (λ t. refl, any-sort c path os)

    -- those in the directory are beside
    beside : (m : ℕ) → directory_path (held_content d h) m ≡ parent (n ∷ ns) → (os : List LiveObject) → AllByRecursion (λ (o : LiveObject). eqb o.object.directory m ≡ true → are_beside (SavedObject (n ∷ ns) []) (saved_object (held_content d h) o) ≡ true) os
    beside m is [] = tt
    beside m is (o ∷ os) = (
      λ here. let q : parent (object_path (held_content d h) o) ≡ parent (n ∷ ns) = parent-push (directory_path (held_content d h) o.object.directory) o.object.name ∙ ap (directory_path (held_content d h)) (eqb-true o.object.directory m here) ∙ is in
          ap (λ p. same_path p (parent (n ∷ ns))) q ∙ path-itself (parent (n ∷ ns)),
      beside m is os,
    )

    crowds : (m : ℕ) → crowd (restored_held d h (SavedObject (n ∷ ns) lines)).objects m ≡ crowd h.objects m + cond (eqb (restored_object (held_content d h) (n ∷ ns)).directory m) 1 0
        → ((restored_object (held_content d h) (n ∷ ns)).directory ≡ m → directory_path (held_content d h) m ≡ parent (n ∷ ns)) → crowd (restored_held d h (SavedObject (n ∷ ns) lines)).objects m ≤ 256
    crowds m is here = by (eqb (restored_object (held_content d h) (n ∷ ns)).directory m) refl is
      where
        by : (t : Bool) → eqb (restored_object (held_content d h) (n ∷ ns)).directory m ≡ t → crowd (restored_held d h (SavedObject (n ∷ ns) lines)).objects m ≡ crowd h.objects m + cond t 1 0 → crowd (restored_held d h (SavedObject (n ∷ ns) lines)).objects m ≤ 256
        by true at is =
            let fewer = more-objects (held_content d h) (are_beside (SavedObject (n ∷ ns) [])) (λ x. eqb x.object.directory m) h.objects fine.kept (beside m (here (eqb-true _ m at)) h.objects) in
            let total = count-saved (held_content d h) before (are_beside (SavedObject (n ∷ ns) [])) fine.saves in
            let few = (follow-parts before (SavedObject (n ∷ ns) []) e.1).beside in
            omega arith
        by false at is = let f = fine.bound.crowds m in omega arith

pub fine-next : (d : ℕ) (h : Held) (before : List Saved) (e : Saved) → IsFine d h before → IsEntry 65536 before e → IsFine d (restored_held d h e) (before ++ e ∷ [])
fine-next d h before (SavedDirectory path) fine e = fine-directory d h before path fine e
fine-next d h before (SavedObject [] lines) fine e = absurd (let f = (follow-parts before (SavedObject [] []) e.1).some in cc)
fine-next d h before (SavedObject (n ∷ ns) lines) fine e = fine-object d h before n ns lines fine e

-- ---- all entries

all-fine : (d : ℕ) (h : Held) (before es : List Saved) → IsFine d h before → AreEntries 65536 before es → IsFine d (held_by d h es) (before ++ es)
all-fine d h before [] fine all = subst (IsFine d h) (sym (append-nil before)) fine
all-fine d h before (e ∷ es) fine all = subst (IsFine d (held_by d (restored_held d h e) es)) (append_assoc before (e ∷ []) es) (all-fine d (restored_held d h e) (before ++ e ∷ []) es (fine-next d h before e fine all.0) all.1)

pub nothing-fine : (d : ℕ) → 1 ≤ d → d ≤ 65535 → IsFine d nothing []
nothing-fine d least most = record {
  held = nothing-held;
  saves = refl;
  bound = record {
    handles_end = omega arith;
    objects = tt;
    crowds = λ m. omega arith;
    directories = (omega arith, tt);
    branches = λ p. omega arith;
    handles = tt;
    queues = tt;
  };
  can = record {
    least = least;
    most = most;
    paths = ((refl, omega arith), tt);
    object_paths = tt;
    attributes = tt;
    directories = omega arith;
    objects = omega arith;
  };
  follows = tt;
  starts = refl;
  kept = tt;
  counted = refl;
}

pub started-fine : (i : Image) → IsGood i → IsFine i.default_limit (held_by i.default_limit nothing i.entries) i.entries
started-fine i h = all-fine i.default_limit nothing [] i.entries (nothing-fine i.default_limit h.least h.most) h.entries

pub started-bound : (i : Image) → IsGood i → IsBound (started_seen i) × CanBeSaved (started_seen i)
started-bound i h =
    let fine = started-fine i h in
    (subst IsBound (sym fine.starts) fine.bound, subst CanBeSaved (sym fine.starts) fine.can)
