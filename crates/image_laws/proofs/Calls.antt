-- The calls that restore an image's entries are not refused, and leave what the image starts.
use Rattle.std.proofs.Common.{◌≡◌, ℕ, zero, suc, ◌+◌, ◌-◌, ◌*◌, ◌^◌, ◌≤◌, ◌<◌, Bool, true, false, cond, not, ◌&&◌, ◌||◌, eqb, List, [], ◌∷◌, ◌++◌, length, map, Option, Some, None, Result, Ok, refl, sym, ap, subst, ◌∙◌, append_assoc, length-append, arith}
use Rattle.std.specs.Prelude.{filter, find, option_map, unwrap_or, nat_le, nat_lt}
use Rattle.std.specs.Option.{option_map_or, option_or}
use Rattle.std.specs.List.{list_all, list_any, AllByRecursion}
use Rattle.std.proofs.lemmas.Bool.{and_parts, and_from, eqb-true, eq-eqb, not-true}
use Rattle.std.proofs.lemmas.Bool.Decides.{nat_tests}
use Rattle.std.specs.Ordering.{is_lt}
use Rattle.std.specs.declared.cmp.Ordering.{Ordering}
use Rattle.std.specs.Result.{is_ok}
use Rattle.pps_types.specs.declared.found.Found.{Found}
use Rattle.pps_types.specs.declared.found.Found.TheVariants.{Object as FoundObject, Directory as FoundDirectory}
use Rattle.pps_types.specs.declared.refusal.Refusal.{Refusal}
use Rattle.pps_types.specs.declared.refusal.Refusal.TheVariants.{Exists, TableFull, TooLarge}
use Rattle.pps_types.specs.declared.record.Kind.TheVariants.{Change}
use Rattle.pps_types.specs.Bytes.{same, ◌>>=◌}
use Rattle.pps_types.specs.Text.{print_lines}
use Rattle.pps_types.specs.Names.{Path, same_path, parent, last_name, beyond, place, find_at, new_refusal, name_cmp, sorted_by, insert_by}
use Rattle.pps_types.specs.History.{text_length}
use Rattle.pps_types.specs.Content.{Object, Directory, LiveObject, Content, at, object_at, parent_number, members, subdirectories}
use Rattle.pps_types.specs.Checks.{Check, Refuse, Memory, first_refusal, refused, objects_beside, object_checks, mkdir_checks}
use Rattle.pps_types.specs.Plan.{Move, Creates, AppendsRecord, MakesDirectory, entry_of, apply_all_seen, passes_last_number}
use Rattle.pps_types.specs.Machine.{start, content_of}
use Rattle.pps_types.specs.Image.{directory_path, Saved, SavedDirectory, SavedObject, SavedLine, path_of, may_follow, restored_object, Image, as_line, started_seen}
use Rattle.pps_types.specs.Restore.{with_numbers, decided, restored_by, restore_directory, restore_object, restore_line, restore_lines, restore_entry, restore_entries, attributes_at, line_moves, line_checks}
use Rattle.pps_types.proofs.Lists.{append-nil}
use Rattle.service_laws.proofs.Rising.{rising-below}
use Rattle.service_laws.proofs.Trees.{same_path-is, path-itself, same-itself}
use Rattle.image_laws.specs.Images.{is_new, is_saved_line, AreLines}
use Rattle.image_laws.specs.Savable.{object_path}
use Rattle.image_laws.proofs.Good.{IsEntry, AreEntries, IsGood}
use Rattle.image_laws.proofs.Places.{places}
use Rattle.pps_types.proofs.SameBytes.{same-is}
use Rattle.image_laws.proofs.Entries.{follow-parts}
use Rattle.image_laws.proofs.Printed.{count-push}
use Rattle.image_laws.proofs.Started.{Held, held_content, nothing, known_with, with_directory, restored_held, held_by, IsHome, home-of, parent-there, parent-last, lines-applied, put-new, started-held, restored_attribute}
use Rattle.image_laws.proofs.Restoring.{text-same, same-length, IsFine, fine-content, fine-next, nothing-fine, less-all, other-directories, other-objects}

-- ---- paths that lead to a directory

module _ (c : Content) where
  abbrev pub Leads : Path → Type 0
  Leads p = list_any (λ x. same_path x.path p) c.directories ≡ true

  record Found-at (p : Path) (ds : List Directory) : Type 0 where
    pub one : Directory
    pub found : find (λ x. same_path x.path p) ds ≡ Some one
    pub is : one.path ≡ p

  found-at : (p : Path) (ds : List Directory) → list_any (λ x. same_path x.path p) ds ≡ true → Found-at p ds
  found-at p [] h = absurd cc
  found-at p (x ∷ ds) h = by (same_path x.path p) refl h (found-at p ds)
    where
      by : (t : Bool) → same_path x.path p ≡ t → (t || list_any (λ x. same_path x.path p) ds) ≡ true → (list_any (λ x. same_path x.path p) ds ≡ true → Found-at p ds) → Found-at p (x ∷ ds)
      by true is h rec = record { one = x; found = rw is refl; is = same_path-is x.path p is }
      by false is h rec = let r = rec h in record { one = r.one; found = rw is r.found; is = r.is }

  pub leads-at : (p : Path) → Leads p → (n : ℕ) × (at c p ≡ Some (FoundDirectory n))
  leads-at p h = let r = found-at p c.directories h in (r.one.number, rw (r.found) refl)

  module _ (parents : AllByRecursion (λ d. list_any (λ x. same_path x.path (parent d.path)) c.directories ≡ true) c.directories) where
    up-in : (p : Path) (ds : List Directory) → AllByRecursion (λ d. Leads (parent d.path)) ds → list_any (λ x. same_path x.path p) ds ≡ true → Leads (parent p)
    up-in p [] all h = absurd cc
    up-in p (x ∷ ds) all h = by (same_path x.path p) refl h (up-in p ds all.1)
      where
        by : (t : Bool) → same_path x.path p ≡ t → (t || list_any (λ x. same_path x.path p) ds) ≡ true → (list_any (λ x. same_path x.path p) ds ≡ true → Leads (parent p)) → Leads (parent p)
        by true is h rec = subst (λ p. Leads (parent p)) (same_path-is x.path p is) all.0
        by false is h rec = rec h

    up : (p : Path) → Leads p → Leads (parent p)
    up p h = up-in p c.directories parents h

    parent-append : (a : Path) (x : List ℕ) (b : Path) → parent (a ++ (x ∷ b)) ≡ a ++ parent (x ∷ b)
    parent-append [] x b = refl
    parent-append (n ∷ []) x b = refl
    parent-append (n ∷ m ∷ a) x b = ap (λ rest. n ∷ rest) (parent-append (m ∷ a) x b)

    length-parent : (x : List ℕ) (b : Path) → length (parent (x ∷ b)) ≡ length b
    length-parent x [] = refl
    length-parent x (y ∷ b) = ap suc (length-parent y b)

    prefix : (k : ℕ) (a b : Path) → length b ≡ k → Leads (a ++ b) → Leads a
    prefix k a [] is h = subst Leads (append-nil a) h
    prefix zero a (x ∷ b) is h = absurd (omega arith)
    prefix (suc k) a (x ∷ b) is h = prefix k a (parent (x ∷ b)) (let e = length-parent x b in omega arith) (subst Leads (parent-append a x b) (up (a ++ (x ∷ b)) h))

    beyond-directory : {X : Type 0} (found : Option Found) (n : ℕ) (r : Result X Refusal) → found ≡ Some (FoundDirectory n) → beyond found r ≡ r
    beyond-directory found n r is = rw is refl

    place-from : (a : Path) (n : List ℕ) (ns : Path) → Leads (a ++ parent (n ∷ ns)) → place (λ p. at c (a ++ p)) (n ∷ ns) ≡ Ok (at c (a ++ (n ∷ ns)))
    place-from a n [] h = let there = leads-at (a ++ []) h in beyond-directory (at c (a ++ [])) there.0 (Ok (at c (a ++ n ∷ []))) there.1
    place-from a n (m ∷ ms) h =
        let base : Leads a = prefix (length (parent (n ∷ m ∷ ms))) a (parent (n ∷ m ∷ ms)) refl h in
        let there = leads-at (a ++ []) (subst Leads (sym (append-nil a)) base) in
        beyond-directory (at c (a ++ [])) there.0 (place (λ p. at c (a ++ (n ∷ p))) (m ∷ ms)) there.1
        ∙ (λ i. place (λ p. at c (sym (append_assoc a (n ∷ []) p) i)) (m ∷ ms))
        ∙ place-from (a ++ n ∷ []) m ms (subst Leads (sym (append_assoc a (n ∷ []) (parent (m ∷ ms)))) h)
        ∙ ap (λ p. Ok (at c p)) (append_assoc a (n ∷ []) (m ∷ ms))

    pub place-parent : (n : List ℕ) (ns : Path) → Leads (parent (n ∷ ns)) → place (at c) (n ∷ ns) ≡ Ok (at c (n ∷ ns))
    place-parent n ns h = place-from [] n ns h

-- ---- what is not refused

passed : (checks more : List Check) → first_refusal checks ≡ None → first_refusal (checks ++ more) ≡ first_refusal more
passed [] more h = refl
passed (Refuse true r ∷ checks) more h = absurd cc
passed (Refuse false r ∷ checks) more h = passed checks more h
passed (Memory ∷ checks) more h = passed checks more h

restored-ok : (c d : Content) (moves : List Move) (checks : List Check) → first_refusal checks ≡ None → apply_all_seen moves c ≡ d → passes_last_number d ≡ false → restored_by c moves checks ≡ Ok d
restored-ok c d moves checks none is small =
    let last : first_refusal (Refuse (passes_last_number (apply_all_seen moves c)) TableFull ∷ []) ≡ None =
    ap (λ e. first_refusal (Refuse (passes_last_number e) TableFull ∷ [])) is ∙ ap (λ t. first_refusal (Refuse t TableFull ∷ [])) small in
    ap (decided c moves) (passed checks (Refuse (passes_last_number (apply_all_seen moves c)) TableFull ∷ []) none ∙ last) ∙ ap Ok is

-- ---- a path that nothing stands at

find-none : (p : Path) (ds : List Directory) → list_all (λ q. not (same_path q p)) (map (λ d. d.path) ds) ≡ true → find (λ x. same_path x.path p) ds ≡ None
find-none p [] h = refl
find-none p (x ∷ ds) h =
    let parts = and_parts (not (same_path x.path p)) (list_all (λ q. not (same_path q p)) (map (λ d. d.path) ds)) h in
    rw (not-true (same_path x.path p) parts.0) (find-none p ds parts.1)

-- no object of that name in that directory, where its path is another's
object-none : (c : Content) (p : Path) (name : List ℕ) (number : ℕ) (os : List LiveObject) → directory_path c number ++ name ∷ [] ≡ p → list_all (λ q. not (same_path q p)) (map (object_path c) os) ≡ true
    → find (λ o. eqb o.object.directory number && same o.object.name name) os ≡ None
object-none c p name number [] is h = refl
object-none c p name number (o ∷ os) is h =
    let parts = and_parts (not (same_path (object_path c o) p)) (list_all (λ q. not (same_path q p)) (map (object_path c) os)) h in
    by (eqb o.object.directory number) (same o.object.name name) refl refl parts.0 (object-none c p name number os is parts.1)
  where
    by : (s t : Bool) → eqb o.object.directory number ≡ s → same o.object.name name ≡ t → not (same_path (object_path c o) p) ≡ true → find (λ o. eqb o.object.directory number && same o.object.name name) os ≡ None
        → cond (s && t) (Some o) (find (λ o. eqb o.object.directory number && same o.object.name name) os) ≡ None
    by true true a b n rec =
        let e : object_path c o ≡ p = (λ i. directory_path c (eqb-true o.object.directory number a i) ++ same-is o.object.name name b i ∷ []) ∙ is in
        absurd (let f = sym n ∙ ap (λ q. not (same_path q p)) e ∙ ap not (path-itself p) in cc)
    by true false a b n rec = rec
    by false t a b n rec = rec

find-last : {X : Type 0} (test : X → Bool) (xs : List X) (x : X) → find test xs ≡ None → test x ≡ true → find test (xs ++ x ∷ []) ≡ Some x
find-last test [] x none is = rw is refl
find-last test (y ∷ xs) x none is = by (test y) none (λ h. find-last test xs x h is)
  where
    by : (t : Bool) → cond t (Some y) (find test xs) ≡ None → (find test xs ≡ None → find test (xs ++ x ∷ []) ≡ Some x) → cond t (Some y) (find test (xs ++ x ∷ [])) ≡ Some x
    by true none rec = absurd cc
    by false none rec = rec none

pub record IsFree (d : ℕ) (h : Held) (n : List ℕ) (ns : Path) : Type 0 where
  pub number : ℕ
  pub parent_is : parent_number (held_content d h) (n ∷ ns) ≡ Some number
  pub leads : list_any (λ x. same_path x.path (parent (n ∷ ns))) h.directories ≡ true
  pub no_directory : find (λ x. same_path x.path (n ∷ ns)) h.directories ≡ None
  pub no_object : find (λ o. eqb o.object.directory number && same o.object.name (last_name (n ∷ ns))) h.objects ≡ None

pub free : (d : ℕ) (h : Held) (before : List Saved) (n : List ℕ) (ns : Path) (e : Saved) → path_of e ≡ n ∷ ns → IsFine d h before → may_follow before e ≡ true → IsFree d h n ns
free d h before n ns e path fine f =
    let c = held_content d h in
    let follows = follow-parts before e f in
    let less = less-all c before e fine.saves follows in
    let leads = parent-there d h before e fine.held fine.saves follows.parent in
    let home = home-of d h (path_of e) fine.held leads in
    of home (subst (λ p. list_all (λ q. not (same_path q p)) (map (λ x. x.path) h.directories) ≡ true) path (other-directories (path_of e) h.directories follows.some less.0))
    (subst (λ p. list_all (λ q. not (same_path q p)) (map (object_path c) h.objects) ≡ true) path (other-objects c (path_of e) h.objects fine.kept less.1).0) leads
  where
    of : IsHome d h (path_of e) → list_all (λ q. not (same_path q (n ∷ ns))) (map (λ x. x.path) h.directories) ≡ true → list_all (λ q. not (same_path q (n ∷ ns))) (map (object_path (held_content d h)) h.objects) ≡ true
        → list_any (λ x. same_path x.path (parent (path_of e))) h.directories ≡ true → IsFree d h n ns
    of home dirs objs leads = record {
      number = home.number;
      parent_is = subst (λ p. parent_number (held_content d h) p ≡ Some home.number) path home.is;
      leads = subst (λ p. list_any (λ x. same_path x.path (parent p)) h.directories ≡ true) path leads;
      no_directory = find-none (n ∷ ns) h.directories dirs;
      no_object = object-none (held_content d h) (n ∷ ns) (last_name (n ∷ ns)) home.number h.objects (ap (λ p. p ++ last_name (n ∷ ns) ∷ []) (home.path_is ∙ ap parent path) ∙ parent-last n ns) objs;
    }

-- it is no place of anything
pub not-taken : (d : ℕ) (h : Held) (before : List Saved) (n : List ℕ) (ns : Path) → IsFine d h before → IsFree d h n ns → new_refusal (at (held_content d h)) (n ∷ ns) ≡ None
not-taken d h before n ns fine f =
    let c = held_content d h in
    let placed = place-parent c (places (held_content d h) (fine-content d h before fine)).parents n ns f.leads in
    let none : at c (n ∷ ns) ≡ None = rw (f.no_directory, f.parent_is, f.no_object) refl in
    rw (placed, none) refl

-- ---- few records

pub record IsSmall (h : Held) : Type 0 where
  pub objects : h.next_object ≡ length h.objects
  pub directories : h.next_directory ≡ length h.directories
  pub records : h.records ≤ 1025 * length h.objects

small-numbers : (a b e : ℕ) → a < 2 ^ 60 → b < 2 ^ 60 → e < 2 ^ 60 → (nat_lt (2 ^ 64 - 1) a || nat_lt (2 ^ 64 - 1) b || nat_lt (2 ^ 64 - 1) e) ≡ false
small-numbers a b e x y z =
    let p : nat_lt (2 ^ 64 - 1) a ≡ false = one a x in
    let q : nat_lt (2 ^ 64 - 1) b ≡ false = one b y in
    let r : nat_lt (2 ^ 64 - 1) e ≡ false = one e z in
    rw (p, q, r) refl
  where
    one : (k : ℕ) → k < 2 ^ 60 → nat_lt (2 ^ 64 - 1) k ≡ false
    one k h = grind (arith, nat_tests)

pub small-next : (d : ℕ) (h : Held) (before : List Saved) (e : Saved) → IsSmall h → IsEntry 65536 before e → IsSmall (restored_held d h e)
small-next d h before (SavedDirectory path) small e =
    let a = small.objects in
    let b = small.directories in
    let f = small.records in
    record { objects = a; directories = omega (arith, length-append h.directories (record { number = h.next_directory; path = path } ∷ [])); records = f }
small-next d h before (SavedObject path lines) small e =
    let o = restored_object (held_content d h) path in
    let a = small.objects in
    let b = small.directories in
    let f = small.records in
    let l = length-append h.objects (known_with o lines ∷ []) in
    let few = e.2 in
    record { objects = omega arith; directories = b; records = omega arith }

numbers-left : (d : ℕ) (h : Held) (before : List Saved) → IsFine d h before → IsSmall h → passes_last_number (held_content d h) ≡ false
numbers-left d h before fine small =
    let a = small.objects in
    let b = small.directories in
    let f = small.records in
    let m = fine.can.objects in
    let k = fine.can.directories in
    small-numbers h.records h.next_object h.next_directory (omega arith) (omega arith) (omega arith)

-- ---- a directory

le-false : (a b : ℕ) → b < a → nat_le a b ≡ false
le-false a b h = grind (arith, nat_tests)

lt-false : (a b : ℕ) → b ≤ a → nat_lt a b ≡ false
lt-false a b h = grind (arith, nat_tests)

pub call-directory : (d : ℕ) (h : Held) (before : List Saved) (path : Path) → IsFine d h before → IsSmall h → IsEntry 65536 before (SavedDirectory path) → restore_directory (held_content d h) path ≡ Ok (held_content d (with_directory h path))
call-directory d h before [] fine small e = absurd (let f = (follow-parts before (SavedDirectory []) e.1).some in cc)
call-directory d h before (n ∷ ns) fine small e =
    let path = n ∷ ns in
    let c = held_content d h in
    let added : Directory = record { number = h.next_directory; path = path } in
    let after = fine-next d h before (SavedDirectory path) fine e in
    let more = count-push (λ (x : Directory). not (same_path x.path []) && same_path (parent x.path) (parent path)) h.directories added in
    let own = path-itself (parent path) in
    let room : length (subdirectories c (parent path)) < 256 = (let b = after.bound.branches (parent path) in let m = rw own at more in omega arith) in
    let few : length h.directories ≤ 65535 = (let b = after.can.directories in omega (arith, length-append h.directories (added ∷ []))) in
    restored-ok c (held_content d (with_directory h path)) (MakesDirectory path ∷ []) (mkdir_checks c path)
    (rw (not-taken d h before n ns fine (free d h before n ns (SavedDirectory path) refl fine e.1), le-false 256 (length (subdirectories c (parent path))) room, lt-false 65535 (length h.directories) few) refl)
    refl (numbers-left d (with_directory h path) (before ++ SavedDirectory path ∷ []) after (small-next d h before (SavedDirectory path) small e))

-- ---- the lines of an object

not-there : (before : List SavedLine) (l : SavedLine) → is_new before l ≡ true → list_any (λ a. same a.name l.name) (map restored_attribute before) ≡ false
not-there [] l h = refl
not-there (x ∷ before) l h = by (same x.name l.name) h (not-there before l)
  where
    by : (t : Bool) → not (t || list_any (λ x. same x.name l.name) before) ≡ true → (is_new before l ≡ true → list_any (λ a. same a.name l.name) (map restored_attribute before) ≡ false) → (t || list_any (λ a. same a.name l.name) (map restored_attribute before)) ≡ false
    by true h rec = absurd cc
    by false h rec = rec h

module _ (d next_object next_directory : ℕ) (olds : List LiveObject) (o : Object) (directories : List Directory) (n : List ℕ) (ns : Path) where
  abbrev standing : ℕ → List SavedLine → Content
  standing records before = held_content d (record { records = records; objects = olds ++ known_with o before ∷ []; next_object = next_object; directories = directories; next_directory = next_directory })

  module _
      (older : AllByRecursion (λ k. k.object.number < o.number) olds)
      (parents : AllByRecursion (λ x. list_any (λ y. same_path y.path (parent x.path)) directories ≡ true) directories)
      (leads : list_any (λ x. same_path x.path (parent (n ∷ ns))) directories ≡ true)
      (parent_is : option_map (λ (x : Directory). x.number) (find (λ x. same_path x.path (parent (n ∷ ns))) directories) ≡ Some o.directory)
      (no_directory : find (λ x. same_path x.path (n ∷ ns)) directories ≡ None)
      (no_object : find (λ k. eqb k.object.directory o.directory && same k.object.name (last_name (n ∷ ns))) olds ≡ None)
      (named : o.name ≡ last_name (n ∷ ns))
      (few_objects : next_object < 2 ^ 60)
      (few_directories : next_directory < 2 ^ 60) where
    object-there : (records : ℕ) (before : List SavedLine) → object_at (standing records before) (n ∷ ns) ≡ Some (known_with o before)
    object-there records before =
        rw parent_is (find-last (λ k. eqb k.object.directory o.directory && same k.object.name (last_name (n ∷ ns))) olds (known_with o before) no_object
        (and_from _ _ (eq-eqb o.directory o.directory refl) (ap (same o.name) (sym named) ∙ same-itself o.name)))

    found-there : (records : ℕ) (before : List SavedLine) → find_at (at (standing records before)) (n ∷ ns) ≡ Ok (FoundObject o.number)
    found-there records before =
        let placed = place-parent (standing records before) parents n ns leads in
        let is : at (standing records before) (n ∷ ns) ≡ Some (FoundObject o.number) =
        ap (λ x. option_or (option_map (λ (x : Directory). FoundDirectory x.number) x) (option_map (λ (k : LiveObject). FoundObject k.object.number) (object_at (standing records before) (n ∷ ns)))) no_directory
        ∙ ap (option_map (λ (k : LiveObject). FoundObject k.object.number)) (object-there records before) in
        rw (placed, is) refl

    call-line : (records : ℕ) (before : List SavedLine) (l : SavedLine) → AreLines 65536 before (l ∷ []) → length before + 1 ≤ 1024 → records + 1 < 2 ^ 60 → restore_line (standing records before) (n ∷ ns) (as_line l) ≡ Ok (standing (records + 1) (before ++ l ∷ []))
    call-line records before l h few some =
        let c = standing records before in
        let there = object-there records before in
        let moves : line_moves c (n ∷ ns) (as_line l) ≡ AppendsRecord (entry_of o (Change (as_line l ∷ [])) None) ∷ [] = rw there refl in
        let attributes : attributes_at c (n ∷ ns) ≡ map restored_attribute before = rw there refl in
        let added = put-new before l h.1 in
        let short : nat_lt 1024 (length (map restored_attribute (before ++ l ∷ []))) ≡ false =
        lt-false 1024 (length (map restored_attribute (before ++ l ∷ []))) (omega (arith, same-length (before ++ l ∷ []), length-append before (l ∷ []))) in
        let text : nat_lt 65536 (text_length (map restored_attribute (before ++ l ∷ []))) ≡ false =
        lt-false 65536 (text_length (map restored_attribute (before ++ l ∷ []))) (omega (arith, ap (λ ls. length (print_lines ls)) (text-same (before ++ l ∷ [])), h.2)) in
        restored-ok c (standing (records + 1) (before ++ l ∷ [])) (line_moves c (n ∷ ns) (as_line l)) (line_checks c (n ∷ ns) (as_line l))
        (rw (found-there records before, attributes, not-there before l h.1, added, short, text) refl)
        (ap (λ xs. apply_all_seen xs c) moves ∙ lines-applied d 65536 records next_object next_directory olds o directories before (l ∷ []) older h)
        (small-numbers (records + 1) next_object next_directory some few_objects few_directories)

    -- a line is taken exactly where its name is new and the text stays short
    line-decides : (records : ℕ) (before : List SavedLine) (l : SavedLine) → is_saved_line l ≡ true → length before + 1 ≤ 1024 → records + 1 < 2 ^ 60
        → is_ok (restore_line (standing records before) (n ∷ ns) (as_line l)) ≡ (is_new before l && nat_le (length (print_lines (map as_line (before ++ l ∷ [])))) 65536)
    line-decides records before l is few some =
        by (is_new before l) (nat_le (length (print_lines (map as_line (before ++ l ∷ [])))) 65536) refl refl
      where
        taken : (before : List SavedLine) → is_new before l ≡ false → list_any (λ a. same a.name l.name) (map restored_attribute before) ≡ true
        taken [] h = absurd cc
        taken (x ∷ before) h = go (same x.name l.name) h (taken before)
          where
            go : (t : Bool) → not (t || list_any (λ x. same x.name l.name) before) ≡ false → (is_new before l ≡ false → list_any (λ a. same a.name l.name) (map restored_attribute before) ≡ true) → (t || list_any (λ a. same a.name l.name) (map restored_attribute before)) ≡ true
            go true h rec = refl
            go false h rec = rec h

        more-than : (a : ℕ) → nat_le a 65536 ≡ false → nat_lt 65536 a ≡ true
        more-than a h = grind (arith, nat_tests)

        at-most : (a : ℕ) → nat_le a 65536 ≡ true → a ≤ 65536
        at-most a h = grind (arith, nat_tests)

        by : (t f : Bool) → is_new before l ≡ t → nat_le (length (print_lines (map as_line (before ++ l ∷ [])))) 65536 ≡ f → is_ok (restore_line (standing records before) (n ∷ ns) (as_line l)) ≡ (t && f)
        by false f new fits =
            let there = object-there records before in
            let attributes : attributes_at (standing records before) (n ∷ ns) ≡ map restored_attribute before = rw there refl in
            let refuses : first_refusal (with_numbers (standing records before) (line_moves (standing records before) (n ∷ ns) (as_line l)) (line_checks (standing records before) (n ∷ ns) (as_line l))) ≡ Some Exists =
            rw (found-there records before, attributes, taken before new) refl in
            ap (λ r. is_ok (decided (standing records before) (line_moves (standing records before) (n ∷ ns) (as_line l)) r)) refuses
        by true false new fits =
            let there = object-there records before in
            let attributes : attributes_at (standing records before) (n ∷ ns) ≡ map restored_attribute before = rw there refl in
            let long : nat_lt 65536 (text_length (map restored_attribute (before ++ l ∷ []))) ≡ true =
            ap (λ ls. nat_lt 65536 (length (print_lines ls))) (text-same (before ++ l ∷ [])) ∙ more-than (length (print_lines (map as_line (before ++ l ∷ [])))) fits in
            let short : nat_lt 1024 (length (map restored_attribute (before ++ l ∷ []))) ≡ false =
            lt-false 1024 (length (map restored_attribute (before ++ l ∷ []))) (omega (arith, same-length (before ++ l ∷ []), length-append before (l ∷ []))) in
            let refuses : first_refusal (with_numbers (standing records before) (line_moves (standing records before) (n ∷ ns) (as_line l)) (line_checks (standing records before) (n ∷ ns) (as_line l))) ≡ Some TooLarge =
            rw (found-there records before, attributes, not-there before l new, put-new before l new, short, long) refl in
            ap (λ r. is_ok (decided (standing records before) (line_moves (standing records before) (n ∷ ns) (as_line l)) r)) refuses
        by true true new fits = ap is_ok (call-line records before l (is, new, at-most (length (print_lines (map as_line (before ++ l ∷ [])))) fits, tt) few some)

    call-lines : (records : ℕ) (before lines : List SavedLine) → AreLines 65536 before lines → length before + length lines ≤ 1024 → records + length lines < 2 ^ 60
        → restore_lines (standing records before) (n ∷ ns) lines ≡ Ok (standing (records + length lines) (before ++ lines))
    call-lines records before [] h few some =
        let none : records ≡ records + 0 = omega arith in
        λ i. Ok (standing (none i) (sym (append-nil before) i))
    call-lines records before (l ∷ lines) h few some =
        let more : (records + 1) + length lines ≡ records + length (l ∷ lines) = omega arith in
        ap (λ r. r >>= (λ c. restore_lines c (n ∷ ns) lines)) (call-line records before l (h.0, h.1, h.2, tt) (omega arith) (omega arith))
        ∙ call-lines (records + 1) (before ++ l ∷ []) lines h.3 (omega (arith, length-append before (l ∷ []))) (omega arith)
        ∙ (λ i. Ok (standing (more i) (append_assoc before (l ∷ []) lines i)))

-- ---- an object

module _ {X : Type 0} {K : Type 0} (cmp : K → K → Ordering) (key : X → K) where
  length-insert : (x : X) (ys : List X) → length (insert_by cmp key x ys) ≡ suc (length ys)
  length-insert x [] = refl
  length-insert x (y ∷ ys) =
      elim (is_lt (cmp (key x) (key y))) as (λ b. length (cond b (x ∷ y ∷ ys) (y ∷ insert_by cmp key x ys)) ≡ suc (suc (length ys)))
      [ true ↦ refl | false ↦ ap suc (length-insert x ys) ]

  pub length-sorted : (xs : List X) → length (sorted_by cmp key xs) ≡ length xs
  length-sorted [] = refl
  length-sorted (x ∷ xs) = length-insert x (sorted_by cmp key xs) ∙ ap suc (length-sorted xs)

abbrev pub created : ℕ → Held → Object → Content
created d h o = held_content d (record h { records = h.records + 1; objects = h.objects ++ known_with o [] ∷ []; next_object = h.next_object + 1 })

pub call-creation : (d : ℕ) (h : Held) (before : List Saved) (n : List ℕ) (ns : Path) (lines : List SavedLine) → IsFine d h before → IsSmall h → IsEntry 65536 before (SavedObject (n ∷ ns) lines)
    → restore_object (held_content d h) (n ∷ ns) ≡ Ok (created d h (restored_object (held_content d h) (n ∷ ns)))
call-creation d h before n ns lines fine small e =
    let path = n ∷ ns in
    let c = held_content d h in
    let o = restored_object c path in
    let f = free d h before n ns (SavedObject path []) refl fine e.1 in
    let where_is : o.directory ≡ f.number = ap (λ n. unwrap_or n 0) f.parent_is in
    let after = fine-next d h before (SavedObject path lines) fine e in
    let more = count-push (λ (k : LiveObject). eqb k.object.directory f.number) h.objects (known_with o lines) in
    let own : eqb o.directory f.number ≡ true = eq-eqb o.directory f.number where_is in
    let room : length (filter (λ k. eqb k.object.directory f.number) h.objects) < 256 = (let b = after.bound.crowds f.number in let m = rw own at more in omega arith) in
    let beside : length (members c f.number) < 256 = (let s = length-sorted name_cmp (λ (k : LiveObject). k.object.name) (filter (λ k. eqb k.object.directory f.number) h.objects) in omega arith) in
    let objects : objects_beside c path ≡ length (members c f.number) = ap (λ n. option_map_or (λ d. length (members c d)) n 0) f.parent_is in
    let few : length h.objects < 65535 = (let b = after.can.objects in omega (arith, length-append h.objects (known_with o lines ∷ []))) in
    let a = small.objects in
    let b = small.directories in
    let r = small.records in
    let k = fine.can.directories in
    let few_lines = e.2 in
    restored-ok c (created d h o) (Creates o ∷ []) (refused (new_refusal (at c) path) ++ object_checks c path)
    (rw (not-taken d h before n ns fine f, objects, le-false 256 (length (members c f.number)) beside, le-false 65535 (length h.objects) few) refl)
    refl (small-numbers (h.records + 1) (h.next_object + 1) h.next_directory (omega arith) (omega arith) (omega arith))

pub call-object : (d : ℕ) (h : Held) (before : List Saved) (n : List ℕ) (ns : Path) (lines : List SavedLine) → IsFine d h before → IsSmall h → IsEntry 65536 before (SavedObject (n ∷ ns) lines)
    → restore_entry (held_content d h) (SavedObject (n ∷ ns) lines) ≡ Ok (held_content d (restored_held d h (SavedObject (n ∷ ns) lines)))
call-object d h before n ns lines fine small e =
    let path = n ∷ ns in
    let c = held_content d h in
    let o = restored_object c path in
    let f = free d h before n ns (SavedObject path []) refl fine e.1 in
    let where_is : o.directory ≡ f.number = ap (λ n. unwrap_or n 0) f.parent_is in
    let m = fine.can.objects in
    let a = small.objects in
    let b = small.directories in
    let r = small.records in
    let k = fine.can.directories in
    let few_lines = e.2 in
    ap (λ r. r >>= (λ c. restore_lines c path lines)) (call-creation d h before n ns lines fine small e)
    ∙ call-lines d (h.next_object + 1) h.next_directory h.objects o h.directories n ns
    (rising-below (λ k. k.object.number) 0 h.next_object h.objects fine.held.objects_rise) (places (held_content d h) (fine-content d h before fine)).parents f.leads
    (f.parent_is ∙ ap Some (sym where_is)) f.no_directory (subst (λ m. find (λ k. eqb k.object.directory m && same k.object.name (last_name path)) h.objects ≡ None) (sym where_is) f.no_object) refl
    (omega arith) (omega arith) (h.records + 1) [] lines e.3 (omega arith) (omega arith)

pub object-line-decides : (d : ℕ) (h : Held) (before : List Saved) (n : List ℕ) (ns : Path) (lines : List SavedLine) (l : SavedLine) → IsFine d h before → IsSmall h → IsEntry 65536 before (SavedObject (n ∷ ns) lines) → is_saved_line l ≡ true → length lines < 1024
    → is_ok (restore_line (held_content d (restored_held d h (SavedObject (n ∷ ns) lines))) (n ∷ ns) (as_line l)) ≡ (is_new lines l && nat_le (length (print_lines (map as_line (lines ++ l ∷ [])))) 65536)
object-line-decides d h before n ns lines l fine small e is fewer =
    let path = n ∷ ns in
    let c = held_content d h in
    let o = restored_object c path in
    let f = free d h before n ns (SavedObject path []) refl fine e.1 in
    let where_is : o.directory ≡ f.number = ap (λ n. unwrap_or n 0) f.parent_is in
    let m = fine.can.objects in
    let a = small.objects in
    let b = small.directories in
    let r = small.records in
    let k = fine.can.directories in
    line-decides d (h.next_object + 1) h.next_directory h.objects o h.directories n ns
    (rising-below (λ k. k.object.number) 0 h.next_object h.objects fine.held.objects_rise) (places (held_content d h) (fine-content d h before fine)).parents f.leads
    (f.parent_is ∙ ap Some (sym where_is)) f.no_directory (subst (λ m. find (λ k. eqb k.object.directory m && same k.object.name (last_name path)) h.objects ≡ None) (sym where_is) f.no_object) refl
    (omega arith) (omega arith) ((h.records + 1) + length lines) lines l is (omega arith) (omega arith)

-- ---- all entries

pub call-entry : (d : ℕ) (h : Held) (before : List Saved) (e : Saved) → IsFine d h before → IsSmall h → IsEntry 65536 before e → restore_entry (held_content d h) e ≡ Ok (held_content d (restored_held d h e))
call-entry d h before (SavedDirectory path) fine small e = call-directory d h before path fine small e
call-entry d h before (SavedObject [] lines) fine small e = absurd (let f = (follow-parts before (SavedObject [] []) e.1).some in cc)
call-entry d h before (SavedObject (n ∷ ns) lines) fine small e = call-object d h before n ns lines fine small e

call-entries : (d : ℕ) (h : Held) (before es : List Saved) → IsFine d h before → IsSmall h → AreEntries 65536 before es → restore_entries (held_content d h) es ≡ Ok (held_content d (held_by d h es))
call-entries d h before [] fine small all = refl
call-entries d h before (e ∷ es) fine small all =
    ap (λ r. r >>= (λ c. restore_entries c es)) (call-entry d h before e fine small all.0)
    ∙ call-entries d (restored_held d h e) (before ++ e ∷ []) es (fine-next d h before e fine all.0) (small-next d h before e small all.0) all.1

-- what an image starts is what the calls leave, one for each directory, object and line, from the empty service
pub calls-start : (i : Image) → IsGood i → restore_entries (content_of (start 1 i.default_limit)) i.entries ≡ Ok (started_seen i)
calls-start i h =
    call-entries i.default_limit nothing [] i.entries (nothing-fine i.default_limit h.least h.most) (record { objects = refl; directories = refl; records = omega arith }) h.entries
    ∙ ap Ok (sym (started-held 65536 i h.entries).is)
