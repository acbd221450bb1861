-- What an image starts is a machine, and what stands of it is what the entries restore.
use Rattle.std.proofs.Common.{◌≡◌, ℕ, ◌+◌, ◌-◌, ◌<◌, zero, suc, Bool, true, false, cond, not, ◌&&◌, ◌||◌, eqb, eqb-true, eq-eqb, ne_eqb, List, [], ◌∷◌, ◌++◌, map, Option, Some, None, Ok, Err, refl, sym, ap, subst, ◌∙◌, arith, append_assoc, length}
use Rattle.std.specs.Prelude.{fold, is_some, find, unwrap_or, option_map, option_and_then, nat_le, nat_lt, filter, codes}
use Rattle.std.specs.Option.{option_or, option_map_or}
use Rattle.std.specs.List.{AllByRecursion, list_all, list_any}
use Rattle.std.specs.Ordering.{is_lt, ordering_reverse}
use Rattle.std.specs.declared.cmp.Ordering.{Ordering}
use Rattle.std.specs.declared.cmp.Ordering.TheVariants.{Less, Equal, Greater}
use Rattle.std.proofs.lemmas.Cmp.{nat_list_cmp_total, lists_total}
use Rattle.pps_types.specs.declared.record.Kind.TheVariants.{Change}
use Rattle.pps_types.specs.Bytes.{same, is_empty, after_prefix, split_at_first, pieces}
use Rattle.pps_types.specs.declared.line.Mark.TheVariants.{Keep}
use Rattle.pps_types.specs.Text.{set_line, print_lines}
use Rattle.pps_types.specs.OpenText.{path_text}
use Rattle.pps_types.specs.Names.{Path, same_path, parent, last_name, path_cmp}
use Rattle.pps_types.specs.History.{after_kind}
use Rattle.pps_types.specs.Content.{Content, object_numbered, Object, Directory, LiveObject, directory_at, object_at, object_in, parent_number}
use Rattle.pps_types.specs.Plan.{Move, Creates, AppendsRecord, MakesDirectory, apply_seen, apply_all_seen, touched, entry_of, offer, creation}
use Rattle.pps_types.specs.WellFormed.{IsContent, directory_numbered}
use Rattle.pps_types.specs.Machine.{IsMade, AreAlive, Machine, AreLawful, start, content_of}
use Rattle.pps_types.specs.Image.{Image, Loaded, Position, First, Between, Within, Behind, in_object, object_of, with_entry, directory_line, object_line, end_line, line_read, read_lines, at_end, loaded_with, plain_number, IsImage, AreFollowing, Saved, SavedDirectory, SavedObject, SavedLine, as_line, path_of, is_directory_entry, has_parent, are_beside, same_sort, set_of, may_follow, restored_object, restoring, restored, restored_seen, started, started_seen}
use Rattle.service_laws.specs.Laws.{ImagesStart}
use Rattle.pps_types.proofs.Lists.{all-push, append-nil}
use Rattle.service_laws.proofs.Finds.{OfSome, some-of, and-both, all-imp, all-find, all-none, find-last, some-push, find-true}
use Rattle.service_laws.proofs.Rising.{rising-below}
use Rattle.service_laws.proofs.Fits.{IsFree, IsPlaced, AreSafe, safe-fit}
use Rattle.service_laws.proofs.Trees.{find-left, same_path-is, path-itself, object-touched, object-pushed, other-created, of_name}
use Rattle.service_laws.proofs.Holders.{Basis, basis-after}
use Rattle.service_laws.proofs.WellSteps.{basis-in, content-out}
use Rattle.service_laws.proofs.Servers.{Served, served-created, served-stays}
use Rattle.service_laws.proofs.Parked.{IsIdle}
use Rattle.service_laws.proofs.Law.{none-next, apply_all-shown, start-of, start-content, machine-of}

lines-lawful : (o : Object) (n : ℕ) (lines : List SavedLine) → AreLawful n (map (λ l. AppendsRecord (entry_of o (Change (as_line l ∷ [])) None)) lines)
lines-lawful o n [] = tt
lines-lawful o n (l ∷ lines) = (refl, lines-lawful o n lines)

restoring-lawful : (c : Content) (e : Saved) → AreLawful c.next_object (restoring c e)
restoring-lawful c (SavedDirectory path) = (tt, tt)
restoring-lawful c (SavedObject path lines) = (refl, lines-lawful (restored_object c path) (c.next_object + 1) lines)

-- each line is a record of the object
lines-alive : (o : Object) (lines : List SavedLine) (c : Content) (k : LiveObject) → k.object ≡ o → object_numbered c o.number ≡ Some k → AreAlive c (map (λ l. AppendsRecord (entry_of o (Change (as_line l ∷ [])) None)) lines)
lines-alive o [] c k is found = tt
lines-alive o (l ∷ lines) c k is found =
    let e = entry_of o (Change (as_line l ∷ [])) None in
    let now : LiveObject = record k { attributes = after_kind k.attributes (Change (as_line l ∷ [])) } in
    let stays : touched e k ≡ Some now = ap (λ b. cond b (Some now) (Some k)) (eq-eqb o.number k.object.number (ap (λ (x : Object). x.number) (sym is))) in (
      record { object = k; found = found; in_directory = ap (λ (x : Object). x.directory) (sym is); under_name = ap (λ (x : Object). x.name) (sym is) },
      lines-alive o lines (apply_seen (AppendsRecord e) c) now is (find-left (λ (x : LiveObject). eqb x.object.number o.number) e k now (λ a b same. ap (λ (x : Object). eqb x.number o.number) same) stays c.objects found),
    )

restoring-alive : (m : Machine) → IsMade m → (e : Saved) → AreAlive (content_of m) (restoring (content_of m) e)
restoring-alive m made (SavedDirectory path) = (tt, tt)
restoring-alive m made (SavedObject path lines) =
    let o = restored_object (content_of m) path in
    let new : LiveObject = record { object = o; attributes = [] } in (
      tt,
      lines-alive o lines (apply_seen (Creates o) (content_of m)) new refl
          (find-last (λ (x : LiveObject). eqb x.object.number o.number) (content_of m).objects new (none-next m made) ∙ ap (λ b. cond b (Some new) None) (eq-eqb o.number o.number refl)),
    )

all-restored : (m : Machine) → IsMade m → (es : List Saved) → (content_of (fold restored m es) ≡ fold restored_seen (content_of m) es) × IsMade (fold restored m es)
all-restored m made [] = (refl, made)
all-restored m made (e ∷ es) =
    let one = apply_all-shown (restoring (content_of m) e) m made (restoring-lawful (content_of m) e) (restoring-alive m made e) in
    let rest = all-restored (restored m e) one.1 es in
    (rest.0 ∙ ap (λ c. fold restored_seen c es) one.0, rest.1)

-- ---- each entry is at a free path

record Restored (before : List Saved) (c : Content) : Type 0 where
  pub basis : Basis c
  pub served : Served c
  pub nobody : c.handles ≡ []
  pub unnamed : (p : Path) → AllByRecursion (λ x. same_path (path_of x) p ≡ false) before → is_empty p ≡ false → (directory_at c p ≡ None) × (object_at c p ≡ None)
  pub there : AllByRecursion (λ x. is_directory_entry x ≡ true → is_some (directory_at c (path_of x)) ≡ true) before

below-other : (p q : Path) → is_lt (path_cmp p q) ≡ true → same_path p q ≡ false
below-other p q lt = go (same_path p q) refl
  where
    never : (o : Ordering) → is_lt o ≡ true → o ≡ ordering_reverse o → ⊥
    never Less e f = cc
    never Equal e f = cc
    never Greater e f = cc

    go : (b : Bool) → same_path p q ≡ b → b ≡ false
    go false e = refl
    go true e = absurd (never (path_cmp p p) (ap (λ r. is_lt (path_cmp p r)) (same_path-is p q e) ∙ lt) ((lists_total nat_list_cmp_total).antisymm p p))

all-other : (q : Path) (xs : List Saved) → list_all (λ x. is_lt (path_cmp (path_of x) q)) xs ≡ true → AllByRecursion (λ x. same_path (path_of x) q ≡ false) xs
all-other q [] e = tt
all-other q (x ∷ xs) e =
    let both = and-both (is_lt (path_cmp (path_of x) q)) (list_all (λ x. is_lt (path_cmp (path_of x) q)) xs) e in
    (below-other (path_of x) q both.0, all-other q xs both.1)

any-there : (c : Content) (q : Path) (xs : List Saved) → AllByRecursion (λ x. is_directory_entry x ≡ true → is_some (directory_at c (path_of x)) ≡ true) xs → list_any (λ x. is_directory_entry x && same_path (path_of x) q) xs ≡ true → is_some (directory_at c q) ≡ true
any-there c q [] all e = absurd (let h = e in cc)
any-there c q (x ∷ xs) all e = go (is_directory_entry x && same_path (path_of x) q) refl e (any-there c q xs all.1)
  where
    go : (b : Bool) → (is_directory_entry x && same_path (path_of x) q) ≡ b → (b || list_any (λ x. is_directory_entry x && same_path (path_of x) q) xs) ≡ true → (list_any (λ x. is_directory_entry x && same_path (path_of x) q) xs ≡ true → is_some (directory_at c q) ≡ true) → is_some (directory_at c q) ≡ true
    go true f e rest = let both = and-both (is_directory_entry x) (same_path (path_of x) q) f in subst (λ p. is_some (directory_at c p) ≡ true) (same_path-is (path_of x) q both.1) (all.0 both.0)
    go false f e rest = rest e

not-true : (b : Bool) → not b ≡ true → b ≡ false
not-true true e = absurd cc
not-true false e = refl

empty-nil : (p : Path) → is_empty p ≡ true → p ≡ []
empty-nil [] e = refl
empty-nil (n ∷ p) e = absurd (let h = e in cc)

parent-there : (before : List Saved) (c : Content) → Restored before c → (e : Saved) → has_parent before e ≡ true → is_some (directory_at c (parent (path_of e))) ≡ true
parent-there before c r e has = go (is_empty (parent (path_of e))) refl has
  where
    go : (b : Bool) → is_empty (parent (path_of e)) ≡ b → (b || list_any (λ x. is_directory_entry x && same_path (path_of x) (parent (path_of e))) before) ≡ true → is_some (directory_at c (parent (path_of e))) ≡ true
    go true f h = subst (λ p. is_some (directory_at c p) ≡ true) (sym (empty-nil (parent (path_of e)) f)) (ap is_some r.basis.tree.0)
    go false f h = any-there c (parent (path_of e)) before r.there h

three : (a b c d e : Bool) → (a && b && c && d && e) ≡ true → (a ≡ true) × (b ≡ true) × (c ≡ true)
three true true true d e f = (refl, refl, refl)
three true true false d e f = absurd (let h = f in cc)
three true false c d e f = absurd (let h = f in cc)
three false b c d e f = absurd (let h = f in cc)

free-entry : (before : List Saved) (c : Content) → Restored before c → (e : Saved) → may_follow before e ≡ true → IsFree c (path_of e)
free-entry before c r e may =
    let t = three (not (is_empty (path_of e))) (list_all (λ x. is_lt (path_cmp (path_of x) (path_of e))) before) (has_parent before e) (nat_lt (length (filter (are_beside e) before)) 256) (nat_lt (length (filter (same_sort e) before)) 65535) may in
    let none = r.unnamed (path_of e) (all-other (path_of e) before t.1) (not-true (is_empty (path_of e)) t.0) in
    record { directory = none.0; object = none.1; above = parent-there before c r e t.2 }

-- ---- what is named once more

apart-last : (P : Saved → Type 0) (xs : List Saved) (y : Saved) → AllByRecursion P (xs ++ y ∷ []) → AllByRecursion P xs × P y
apart-last P [] y all = (tt, all.0)
apart-last P (x ∷ xs) y all = let rest = apart-last P xs y all.1 in ((all.0, rest.0), rest.1)

-- no object is in the next directory
none-in-next : (c : Content) → Basis c → (name : List ℕ) → object_in c name c.next_directory ≡ None
none-in-next c b name = all-none (of_name name c.next_directory) c.objects (all-imp (λ (o : LiveObject). is_some (directory_numbered c o.object.directory) ≡ true) (λ (o : LiveObject). of_name name c.next_directory o ≡ false) one c.objects b.tree.5)
  where
    one : (o : LiveObject) → is_some (directory_numbered c o.object.directory) ≡ true → of_name name c.next_directory o ≡ false
    one o stands =
        let d = some-of (directory_numbered c o.object.directory) stands in
        let own : d.0.number ≡ o.object.directory = eqb-true d.0.number o.object.directory (find-true (λ (d : Directory). eqb d.number o.object.directory) c.directories d.0 d.1) in
        let below : d.0.number < c.next_directory = all-find (λ (d : Directory). d.number < c.next_directory) (λ d. eqb d.number o.object.directory) c.directories d.0 (rising-below (λ (d : Directory). d.number) 0 c.next_directory c.directories b.order.2) d.1 in
        ap (λ k. k && same o.object.name name) (ne_eqb o.object.directory c.next_directory (λ is. absurd (omega arith)))

restored-directory : (before : List Saved) (c : Content) → Restored before c → (path : Path) → IsFree c path → Restored (before ++ SavedDirectory path ∷ []) (apply_seen (MakesDirectory path) c)
restored-directory before c r path free = record {
  basis = basis-after (MakesDirectory path ∷ []) c r.basis (free, tt);
  served = r.served;
  nobody = r.nobody;
  unnamed = λ p others some. unnamed-more p others some;
  there = all-push (λ x. is_directory_entry x ≡ true → is_some (directory_at after (path_of x)) ≡ true) before (SavedDirectory path)
      (all-imp (λ x. is_directory_entry x ≡ true → is_some (directory_at c (path_of x)) ≡ true) (λ x. is_directory_entry x ≡ true → is_some (directory_at after (path_of x)) ≡ true) (λ x p is. some-push (λ (d : Directory). same_path d.path (path_of x)) c.directories new (p is)) before r.there)
      (λ is. ap is_some (find-last (λ (d : Directory). same_path d.path path) c.directories new free.directory ∙ ap (λ b. cond b (Some new) None) (path-itself path)));
}
  where
    new : Directory
    new = record { number = c.next_directory; path = path }

    after : Content
    after = apply_seen (MakesDirectory path) c

    no-object : (p : Path) → object_at c p ≡ None → object_at after p ≡ None
    no-object [] none = refl
    no-object (n ∷ ns) none = go (directory_at c (parent (n ∷ ns))) refl
      where
        go : (o : Option Directory) → directory_at c (parent (n ∷ ns)) ≡ o → object_at after (n ∷ ns) ≡ None
        go (Some d) e = object-pushed c path (n ∷ ns) (ap is_some e) none
        go None e = ap (λ o. option_and_then (object_in c (last_name (n ∷ ns))) (option_map (λ (d : Directory). d.number) o)) (find-last (λ (d : Directory). same_path d.path (parent (n ∷ ns))) c.directories new e) ∙ by (same_path path (parent (n ∷ ns)))
          where
            by : (b : Bool) → option_and_then (object_in c (last_name (n ∷ ns))) (option_map (λ (d : Directory). d.number) (cond b (Some new) None)) ≡ None
            by true = none-in-next c r.basis (last_name (n ∷ ns))
            by false = refl

    unnamed-more : (p : Path) → AllByRecursion (λ x. same_path (path_of x) p ≡ false) (before ++ SavedDirectory path ∷ []) → is_empty p ≡ false → (directory_at after p ≡ None) × (object_at after p ≡ None)
    unnamed-more p others some =
        let apart = apart-last (λ x. same_path (path_of x) p ≡ false) before (SavedDirectory path) others in
        let none = r.unnamed p apart.0 some in
        (find-last (λ (d : Directory). same_path d.path p) c.directories new none.0 ∙ ap (λ b. cond b (Some new) None) apart.1, no-object p none.1)

-- lines of an object
abbrev line_moves : Object → List SavedLine → List Move
line_moves o lines = map (λ l. AppendsRecord (entry_of o (Change (as_line l ∷ [])) None)) lines

lines-safe : (o : Object) (lines : List SavedLine) → AreSafe (line_moves o lines)
lines-safe o [] = tt
lines-safe o (l ∷ lines) = ((λ c. tt), lines-safe o lines)

lines-directories : (o : Object) (lines : List SavedLine) (c : Content) → (apply_all_seen (line_moves o lines) c).directories ≡ c.directories
lines-directories o [] c = refl
lines-directories o (l ∷ lines) c = lines-directories o lines _

lines-none : (o : Object) (lines : List SavedLine) (c : Content) (p : Path) → object_at c p ≡ None → object_at (apply_all_seen (line_moves o lines) c) p ≡ None
lines-none o [] c p none = none
lines-none o (l ∷ lines) c p none = lines-none o lines _ p (object-touched c (entry_of o (Change (as_line l ∷ [])) None) p none)

lines-served : (o : Object) (lines : List SavedLine) (c : Content) → Served c → Served (apply_all_seen (line_moves o lines) c)
lines-served o [] c s = s
lines-served o (l ∷ lines) c s = lines-served o lines _ (served-stays c (entry_of o (Change (as_line l ∷ [])) None) refl s)

lines-nobody : (o : Object) (lines : List SavedLine) (c : Content) → c.handles ≡ [] → (apply_all_seen (line_moves o lines) c).handles ≡ []
lines-nobody o [] c none = none
lines-nobody o (l ∷ lines) c none = lines-nobody o lines _ (ap (map (offer (entry_of o (Change (as_line l ∷ [])) None))) none)

restored-placed : (c : Content) (path : Path) → IsFree c path → IsPlaced c (restored_object c path)
restored-placed c path free = record { path = path; at_free = free; number = by (directory_at c (parent path)) free.above; name = refl }
  where
    by : (o : Option Directory) → is_some o ≡ true → option_map (λ (d : Directory). d.number) o ≡ Some (unwrap_or (option_map (λ (d : Directory). d.number) o) 0)
    by None e = absurd (let h = e in cc)
    by (Some d) e = refl

restored-object : (before : List Saved) (c : Content) → Restored before c → (path : Path) (lines : List SavedLine) → IsFree c path → Restored (before ++ SavedObject path lines ∷ []) (apply_all_seen (restoring c (SavedObject path lines)) c)
unfolding restored-placed
restored-object before c r path lines free = record {
  basis = basis-after (restoring c (SavedObject path lines)) c r.basis ((refl, placed), safe-fit (line_moves o lines) made (lines-safe o lines));
  served = lines-served o lines made (served-created c o refl refl r.basis.held r.served);
  nobody = lines-nobody o lines made (ap (map (offer (creation o))) r.nobody);
  unnamed = λ p others some.
      let apart = apart-last (λ x. same_path (path_of x) p ≡ false) before (SavedObject path lines) others in
      let none = r.unnamed p apart.0 some in (
        ap (λ ds. find (λ (d : Directory). same_path d.path p) ds) same ∙ none.0,
        lines-none o lines made p (other-created c r.basis.order r.basis.tree o placed p (λ is. let yes : same_path path p ≡ true = ap (same_path path) is ∙ path-itself path in let no = apart.1 in cc) none.1),
      );
  there = all-push (λ x. is_directory_entry x ≡ true → is_some (directory_at (apply_all_seen (line_moves o lines) made) (path_of x)) ≡ true) before (SavedObject path lines)
      (all-imp (λ x. is_directory_entry x ≡ true → is_some (directory_at c (path_of x)) ≡ true) (λ x. is_directory_entry x ≡ true → is_some (directory_at (apply_all_seen (line_moves o lines) made) (path_of x)) ≡ true) (λ x p is. ap (λ ds. is_some (find (λ (d : Directory). same_path d.path (path_of x)) ds)) same ∙ p is) before r.there)
      (λ is. absurd (let h = is in cc));
}
  where
    o : Object
    o = restored_object c path

    made : Content
    made = apply_seen (Creates o) c

    placed : IsPlaced c o
    placed = restored-placed c path free

    same : (apply_all_seen (line_moves o lines) made).directories ≡ c.directories
    same = lines-directories o lines made

restored-one : (before : List Saved) (c : Content) → Restored before c → (e : Saved) → may_follow before e ≡ true → Restored (before ++ e ∷ []) (restored_seen c e)
restored-one before c r (SavedDirectory path) may = restored-directory before c r path (free-entry before c r (SavedDirectory path) may)
restored-one before c r (SavedObject path lines) may = restored-object before c r path lines (free-entry before c r (SavedObject path lines) may)

following-restored : (es before : List Saved) (c : Content) → Restored before c → AreFollowing before es → IsContent (fold restored_seen c es)
following-restored [] before c r f = content-out c r.basis r.served (subst (λ hs. AllByRecursion IsIdle hs) (sym r.nobody) tt)
following-restored (e ∷ es) before c r f = following-restored es (before ++ e ∷ []) (restored_seen c e) (restored-one before c r e f.0) f.1

start-restored : (limit : ℕ) → Restored [] (content_of (start 1 limit))
start-restored limit = record { basis = basis-in (content_of (start 1 limit)) (start-content 1 limit); served = (tt, tt); nobody = refl; unnamed = λ p others some. none p some; there = tt }
  where
    none : (p : Path) → is_empty p ≡ false → (directory_at (content_of (start 1 limit)) p ≡ None) × (object_at (content_of (start 1 limit)) p ≡ None)
    none [] some = absurd (let h = some in cc)
    none (n ∷ ns) some = (refl, by (parent_number (content_of (start 1 limit)) (n ∷ ns)))
      where
        by : (k : Option ℕ) → option_and_then (object_in (content_of (start 1 limit)) (last_name (n ∷ ns))) k ≡ None
        by None = refl
        by (Some k) = refl

pub started-content : (i : Image) → IsImage i → IsContent (started_seen i)
started-content i image = following-restored i.entries [] (content_of (start 1 i.default_limit)) (start-restored i.default_limit) image

-- ---- what is read

following-push : (before es : List Saved) (e : Saved) → AreFollowing before es → may_follow (before ++ es) e ≡ true → AreFollowing before (es ++ e ∷ [])
following-push before [] e f may = (ap (λ xs. may_follow xs e) (sym (append-nil before)) ∙ may, tt)
following-push before (x ∷ es) e f may = (f.0, following-push (before ++ x ∷ []) es e f.1 (ap (λ xs. may_follow xs e) (append_assoc before (x ∷ []) es) ∙ may))

abbrev IsGood : Position → Type 0
IsGood First = Unit {0}
IsGood (Between r) = AreFollowing [] r.entries
IsGood (Within r path lines k) = AreFollowing [] r.entries × (may_follow r.entries (SavedObject path lines) ≡ true)
IsGood (Behind i) = IsImage i

good-object : (r : Loaded) (path : Path) (lines : List SavedLine) (k : ℕ) → AreFollowing [] r.entries → may_follow r.entries (SavedObject path lines) ≡ true → IsGood (in_object r path lines k)
good-object r path lines zero f may = following-push [] r.entries (SavedObject path lines) f may
good-object r path lines (suc k) f may = (f, may)

some-or : {X : Type 0} (P : X → Type 0) (a b : Option X) → OfSome P a → OfSome P b → OfSome P (option_or a b)
some-or P None b p q = q
some-or P (Some x) b p q = p

some-then : {X Y : Type 0} (P : Y → Type 0) (f : X → Option Y) → ((x : X) → OfSome P (f x)) → (o : Option X) → OfSome P (option_and_then f o)
some-then P f p None = tt
some-then P f p (Some x) = p x

some-map : {X Y : Type 0} (P : Y → Type 0) (f : X → Y) → ((x : X) → P (f x)) → (o : Option X) → OfSome P (option_map f o)
some-map P f p None = tt
some-map P f p (Some x) = p x

some-if : {X : Type 0} (P : X → Type 0) (b : Bool) (x : X) → (b ≡ true → P x) → OfSome P (cond b (Some x) None)
some-if P true x p = p refl
some-if P false x p = tt

good-directory : (r : Loaded) → AreFollowing [] r.entries → (text : List ℕ) → OfSome IsGood (directory_line r text)
good-directory r f text = some-then IsGood _ (λ path. some-if IsGood (may_follow r.entries (SavedDirectory path)) (Between (with_entry r (SavedDirectory path))) (λ may. following-push [] r.entries (SavedDirectory path) f may)) (path_text text)

good-object-line : (r : Loaded) → AreFollowing [] r.entries → (path : Option Path) (k : Option ℕ) → OfSome IsGood (object_of r path k)
good-object-line r f None k = tt
good-object-line r f (Some path) None = tt
good-object-line r f (Some path) (Some k) = some-if IsGood (may_follow r.entries (SavedObject path []) && nat_le k 1024) (in_object r path [] k) (λ both. good-object r path [] k f (and-both (may_follow r.entries (SavedObject path [])) (nat_le k 1024) both).0)

good-line : (p : Position) → IsGood p → (l : List ℕ) → OfSome IsGood (line_read p l)
good-line First good l = some-or IsGood _ _ (some-if IsGood (same l (codes "PPSIMAGE 1")) (loaded_with 32768 256) (λ e. tt)) (some-map IsGood (loaded_with 65536) (λ limit. tt) _)
good-line (Between r) good l =
    some-or IsGood (option_and_then (directory_line r) (after_prefix (codes "D ") l)) (option_or (option_and_then (object_line r) (after_prefix (codes "O ") l)) (option_and_then (end_line r) (after_prefix (codes "E ") l)))
    (some-then IsGood (directory_line r) (good-directory r good) (after_prefix (codes "D ") l))
    (some-or IsGood (option_and_then (object_line r) (after_prefix (codes "O ") l)) (option_and_then (end_line r) (after_prefix (codes "E ") l))
    (some-then IsGood (object_line r) (λ text. some-then IsGood (λ parts. object_of r (path_text parts.0) (plain_number parts.1)) (λ parts. good-object-line r good (path_text parts.0) (plain_number parts.1)) (split_at_first 32 text)) (after_prefix (codes "O ") l))
    (some-then IsGood (end_line r) (λ text. some-then IsGood (λ n. cond (eqb n (length r.entries)) (Some (Behind (record { default_limit = r.default_limit; entries = r.entries }))) None) (λ n. some-if IsGood (eqb n (length r.entries)) (Behind (record { default_limit = r.default_limit; entries = r.entries })) (λ e. good)) (plain_number text)) (after_prefix (codes "E ") l)))
good-line (Within r path lines k) good l = some-then IsGood
    (λ (x : SavedLine). cond (not (list_any (λ (y : SavedLine). same y.name x.name) lines) && nat_le (length (print_lines (map as_line (lines ++ x ∷ [])))) r.longest) (Some (in_object r path (lines ++ x ∷ []) (k - 1))) None)
    (λ x. some-if IsGood (not (list_any (λ (y : SavedLine). same y.name x.name) lines) && nat_le (length (print_lines (map as_line (lines ++ x ∷ [])))) r.longest) (in_object r path (lines ++ x ∷ []) (k - 1)) (λ e. good-object r path (lines ++ x ∷ []) (k - 1) good.0 good.1))
    (option_and_then set_of (set_line Keep l))
good-line (Behind i) good l = tt

good-end : (n : ℕ) (p : Position) → IsGood p → (b : Bool) (i : Image) → at_end n p b ≡ Ok i → IsImage i
good-end n First good b i e = absurd (let h = e in cc)
good-end n (Between r) good b i e = absurd (let h = e in cc)
good-end n (Within r path lines k) good b i e = absurd (let h = e in cc)
good-end n (Behind j) good false i e = absurd (let h = e in cc)
good-end n (Behind j) good true i e = let is : j ≡ i = cc in subst IsImage is good

good-read : (ls : List (List ℕ)) (n : ℕ) (p : Position) → IsGood p → (i : Image) → read_lines n p ls ≡ Ok i → IsImage i
good-read [] n p good i e = absurd (let h = e in cc)
good-read (l ∷ []) n p good i e = good-end n p good (is_empty l) i e
good-read (l ∷ m ∷ ms) n p good i e = go (line_read p l) (good-line p good l) e (good-read (m ∷ ms))
  where
    go : (o : Option Position) → OfSome IsGood o → option_map_or (λ p. read_lines (n + 1) p (m ∷ ms)) o (Err n) ≡ Ok i → ((n : ℕ) (p : Position) → IsGood p → (i : Image) → read_lines n p (m ∷ ms) ≡ Ok i → IsImage i) → IsImage i
    go None good e rest = absurd (let h = e in cc)
    go (Some q) good e rest = rest (n + 1) q good i e

pub images-start : ImagesStart
images-start = record {
  made = λ i image.
      let both = all-restored (start 1 i.default_limit) (start-of 1 i.default_limit) i.entries in
      machine-of (started i) both.1 (subst IsContent (sym both.0) (started-content i image));
  read = λ bytes i e. good-read (pieces 10 bytes) 1 First tt i e;
  stands = λ i. (all-restored (start 1 i.default_limit) (start-of 1 i.default_limit) i.entries).0;
}
