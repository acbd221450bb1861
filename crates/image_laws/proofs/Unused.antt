-- What the calls leave that restore entries, of a service of which nobody has a handle.
use Rattle.std.proofs.Common.{◌≡◌, ℕ, ◌≤◌, ◌<◌, Bool, true, false, cond, ◌&&◌, eqb, List, [], ◌∷◌, ◌++◌, length, map, Option, Some, None, Result, Ok, Err, refl, sym, ap, subst, ◌∙◌, length-append, arith}
use Rattle.std.specs.Prelude.{is_some, unwrap_or, option_map, nat_le, nat_lt}
use Rattle.std.specs.Option.{option_map_or}
use Rattle.std.specs.List.{list_any, AllByRecursion}
use Rattle.std.proofs.lemmas.Bool.Decides.{nat_tests}
use Rattle.pps_types.specs.declared.found.Found.{Found}
use Rattle.pps_types.specs.declared.line.Line.{Line}
use Rattle.pps_types.specs.declared.line.Line.TheVariants.{Set, Del}
use Rattle.pps_types.specs.declared.record.Kind.TheVariants.{Change}
use Rattle.pps_types.specs.declared.refusal.Refusal.{Refusal}
use Rattle.pps_types.specs.Bytes.{same, is_empty, ◌>>=◌}
use Rattle.pps_types.specs.Text.{print_line, print_lines}
use Rattle.pps_types.specs.Names.{Path, parent, last_name, place, is_directory, find_at, new_refusal, refusal_of}
use Rattle.pps_types.specs.OpenText.{are_names}
use Rattle.pps_types.specs.History.{Attribute, line_of, text_length, put, apply_line}
use Rattle.pps_types.specs.Reading.{OpenHandle}
use Rattle.pps_types.specs.Rests.{Progress}
use Rattle.pps_types.specs.Content.{Directory, LiveObject, Content, at, directory_at, parent_number, object_at, object_numbered, members, subdirectories}
use Rattle.pps_types.specs.Checks.{Check, Refuse, first_refusal, refused, parsed, object_checks, objects_beside, limit_checks, mkdir_checks}
use Rattle.pps_types.specs.Plan.{Move, Creates, AppendsRecord, MakesDirectory, creation, entry_of, offer, apply_seen, apply_all_seen, passes_last_number}
use Rattle.pps_types.specs.Image.{SavedLine, as_line, restored_object}
use Rattle.pps_types.specs.Restore.{decided, with_numbers, restored_by, restore_directory, restore_object, restore_line, name_of, attributes_at, line_moves, line_checks}
use Rattle.pps_types.specs.WellFormed.{IsContent}
use Rattle.pps_types.specs.Machine.{Machine, IsMachine, AreLawful, AreAlive, content_of, apply_all}
use Rattle.pps_types.specs.Stands.{Stands}
use Rattle.service_laws.proofs.Finds.{all-find}
use Rattle.service_laws.proofs.Fits.{Fits, IsFree, Tree}
use Rattle.service_laws.proofs.Holders.{basis-kept}
use Rattle.service_laws.proofs.Law.{apply_all-shown, made-of, machine-of}
use Rattle.pps_types.proofs.Lists.{all-weaken}
use Rattle.service_laws.proofs.Parked.{AreIdle}
use Rattle.service_laws.proofs.Passes.{all-pass, passes-both, or-false, free-place, object-found}
use Rattle.service_laws.proofs.Rising.{only-one, found-each}
use Rattle.service_laws.proofs.Servers.{Served, served-created, served-stays}
use Rattle.service_laws.proofs.Trees.{same_path-is}
use Rattle.service_laws.proofs.WellSteps.{basis-in, content-out}
use Rattle.service_laws.specs.Bounds.{crowd}
use Rattle.service_laws.specs.Fit.{IsFit}
use Rattle.service_laws.proofs.BoundedEffects.{AllStay, found-fit}
use Rattle.service_laws.proofs.BoundedMoves.{keeps-bound}
use Rattle.service_laws.proofs.BoundedOpens.{members-crowd}
use Rattle.service_laws.proofs.BoundedPaths.{last-short}
use Rattle.image_laws.specs.Images.{is_saved_line, IsImageLine, IsSavedPath}
use Rattle.image_laws.specs.Savable.{AreSavable}
use Rattle.image_laws.specs.Unused.{IsUnused}
use Rattle.image_laws.specs.Restored.{with_directory, with_object, with_line, Becomes}
use Rattle.image_laws.proofs.Paths.{names-of}
use Rattle.image_laws.proofs.Attributes.{lines-attributes}
use Rattle.image_laws.proofs.SavedMoves.{Saves, saved-after}
use Rattle.image_laws.proofs.SavedEvents.{made-path}

-- ---- an accepted call

-- no check refused it, and its moves were made
pub record IsAccepted (c : Content) (moves : List Move) (checks : List Check) (d : Content) : Type 0 where
  pub passes : first_refusal checks ≡ None
  pub is : apply_all_seen moves c ≡ d

accepted : (c : Content) (moves : List Move) (checks : List Check) (d : Content) → restored_by c moves checks ≡ Ok d → IsAccepted c moves checks d
accepted c moves checks d h = by (first_refusal (with_numbers c moves checks)) refl h
  where
    by : (r : Option Refusal) → first_refusal (with_numbers c moves checks) ≡ r → decided c moves r ≡ Ok d → IsAccepted c moves checks d
    by None none h = record { passes = (passes-both checks (Refuse (passes_last_number (apply_all_seen moves c)) Refusal.TableFull ∷ []) none).0; is = cc }
    by (Some r) e h = absurd cc

-- ---- one move

no-handles : (e : Rattle.pps_types.specs.History.Entry) (hs : List (OpenHandle Progress)) → hs ≡ [] → map (offer e) hs ≡ []
no-handles e hs none = ap (map (offer e)) none

idle-unused : (d : Content) → d.handles ≡ [] → AreIdle d
idle-unused d none = subst (AllByRecursion Rattle.service_laws.proofs.Parked.IsIdle) (sym none) tt

-- a move that fits leaves a service that nobody has a handle of
moved : (c : Content) → IsUnused c → (x : Move) → Fits c x → IsFit c x → Saves c x → Served (apply_seen x c) → (apply_seen x c).handles ≡ [] → IsUnused (apply_seen x c)
moved c w x fits fit saves served none = record {
  formed = content-out (apply_seen x c) (basis-kept x c (basis-in c w.formed) fits) served (idle-unused (apply_seen x c) none);
  bound = keeps-bound c x w.bound fit;
  can = saved-after (x ∷ []) c (basis-in c w.formed) (fits, tt) (saves, tt) w.can;
  handles = none;
}

served-in : (c : Content) → IsUnused c → Served c
served-in c w = (w.formed.served.servers, w.formed.served.users)

-- ---- a free path

new-free : (c : Content) → Tree c → (path : Path) → new_refusal (at c) path ≡ None → IsFree c path
new-free c t path none = go (place (at c) path) refl none
  where
    go : (r : Result (Option Found) Refusal) → place (at c) path ≡ r → refusal_of (r >>= (λ found. cond (is_some found) (Err Refusal.Exists) (Ok found))) ≡ None → IsFree c path
    go (Err r) e p = absurd (let h = p in cc)
    go (Ok (Some found)) e p = absurd (let h = p in cc)
    go (Ok None) e p = free-place c t path e

refused-none : (o : Option Refusal) → first_refusal (refused o) ≡ None → o ≡ None
refused-none None h = refl
refused-none (Some r) h = absurd (let e = h in cc)

last-few : (path : Path) → are_names path ≡ true → length (last_name path) ≤ 255
last-few path names = last-short path (names-of path names)

-- ---- a directory

pub directory-stays : (c : Content) → IsUnused c → (path : Path) → IsSavedPath path → (d : Content) → restore_directory c path ≡ Ok d → IsUnused d
directory-stays c w path text d ok =
    let call = accepted c (MakesDirectory path ∷ []) (mkdir_checks c path) d ok in
    let room = Refuse (nat_le 256 (length (subdirectories c (parent path)))) Refusal.TableFull ∷ Refuse (nat_lt 65535 (length c.directories)) Refusal.TableFull ∷ [] in
    let both = passes-both (refused (new_refusal (at c) path)) room call.passes in
    let tests = all-pass room both.1 in
    let few : nat_le 256 (length (subdirectories c (parent path))) ≡ false = tests.0 in
    let less : nat_lt 65535 (length c.directories) ≡ false = tests.1.0 in
    let fit : IsFit c (MakesDirectory path) = (last-few path text.0, (λ q is. rw (sym (same_path-is (parent path) q is)) (grind (arith, nat_tests, few)))) in
    let count : length c.directories < 65536 = grind (arith, nat_tests, less) in
    subst IsUnused call.is (moved c w (MakesDirectory path) (new-free c (basis-in c w.formed).tree path (refused-none (new_refusal (at c) path) both.0)) fit (text, count) (served-in c w) w.handles)

-- ---- an object

numbered : (c : Content) (path : Path) → is_some (directory_at c (parent path)) ≡ true → parent_number c path ≡ Some (unwrap_or (parent_number c path) 0)
numbered c path above = by (directory_at c (parent path)) above
  where
    by : (o : Option Directory) → is_some o ≡ true → option_map (λ (d : Directory). d.number) o ≡ Some (unwrap_or (option_map (λ (d : Directory). d.number) o) 0)
    by None e = absurd (let h = e in cc)
    by (Some d) e = refl

beside-crowd : (c : Content) (path : Path) (k : ℕ) → parent_number c path ≡ Some k → objects_beside c path ≡ crowd c.objects k
beside-crowd c path k is = ap (λ o. option_map_or (λ d. length (members c d)) o 0) is ∙ members-crowd c k

-- no place is free at the root
free-some : (c : Content) → Tree c → (path : Path) → IsFree c path → is_empty path ≡ false
free-some c t [] free = absurd (let no = sym free.directory ∙ t.0 in cc)
free-some c t (n ∷ ns) free = refl

pub object-stays : (c : Content) → IsUnused c → (path : Path) → IsSavedPath path → (d : Content) → restore_object c path ≡ Ok d → IsUnused d
object-stays c w path text d ok =
    let o = restored_object c path in
    let call = accepted c (Creates o ∷ []) (refused (new_refusal (at c) path) ++ object_checks c path) d ok in
    let both = passes-both (refused (new_refusal (at c) path)) (object_checks c path) call.passes in
    let tests = all-pass (object_checks c path) both.1 in
    let few : nat_le 256 (objects_beside c path) ≡ false = tests.0 in
    let less : nat_le 65535 (length c.objects) ≡ false = tests.1.0 in
    let b = basis-in c w.formed in
    let free = new-free c b.tree path (refused-none (new_refusal (at c) path) both.0) in
    let number = numbered c path free.above in
    let beside = beside-crowd c path o.directory number in
    let fit : IsFit c (Creates o) = (last-few path text.0, grind (arith, nat_tests, few, beside)) in
    let fits : Fits c (Creates o) = (refl, record { path = path; at_free = free; number = number; name = refl }) in
    let count : length c.objects < 65535 = grind (arith, nat_tests, less) in
    let saves : Saves c (Creates o) = (subst IsSavedPath (sym (made-path c b path o.directory (free-some c b.tree path free) number)) text, count) in
    subst IsUnused call.is (moved c w (Creates o) fits fit saves (served-created c o refl refl b.held (served-in c w)) (no-handles (creation o) c.handles w.handles))

-- ---- a line

-- an attribute is within the text that it is put into
within : (attributes : List Attribute) (a : Attribute) → length (print_line (line_of a)) ≤ text_length (put attributes a)
within [] a = omega (arith, length-append (print_line (line_of a)) [])
within (x ∷ xs) a = by (same a.name x.name) (within xs a)
  where
    by : (b : Bool) → length (print_line (line_of a)) ≤ text_length (put xs a) → length (print_line (line_of a)) ≤ text_length (cond b (a ∷ xs) (x ∷ put xs a))
    by true rest = omega (arith, length-append (print_line (line_of a)) (print_lines (map line_of xs)))
    by false rest = omega (arith, rest, length-append (print_line (line_of x)) (print_lines (map line_of (put xs a))))

abbrev attribute_of : SavedLine → Attribute
attribute_of l = record { name = l.name; enc = l.enc; value = l.value; n = false }

-- the limits of an object
record IsLimited (attributes : List Attribute) : Type 0 where
  count : length attributes ≤ 1024
  text : text_length attributes ≤ 65536

limited : (attributes : List Attribute) → first_refusal (limit_checks attributes) ≡ None → IsLimited attributes
limited attributes p =
    let both = or-false (nat_lt 1024 (length attributes)) (nat_lt 65536 (text_length attributes)) (all-pass (limit_checks attributes) p).0 in
    let many : nat_lt 1024 (length attributes) ≡ false = both.0 in
    let long : nat_lt 65536 (text_length attributes) ≡ false = both.1 in
    record { count = grind (arith, nat_tests, many); text = grind (arith, nat_tests, long) }

-- the limits were asked of the object at the path
limit-passes : (c : Content) (path : Path) (l : SavedLine) (o : LiveObject) → object_at c path ≡ Some o → first_refusal (line_checks c path (as_line l)) ≡ None → IsLimited (put o.attributes (attribute_of l))
limit-passes c path l o found passes = by (find_at (at c) path) passes
  where
    held : attributes_at c path ≡ o.attributes
    held = ap (λ x. option_map_or (λ (o : LiveObject). o.attributes) x []) found

    by : (r : Result Found Refusal) → first_refusal (parsed r (λ found. Refuse (is_directory found) Refusal.IsDirectory ∷ Refuse (list_any (λ a. same a.name (name_of (as_line l))) (attributes_at c path)) Refusal.Exists ∷ limit_checks (apply_line (attributes_at c path) (as_line l)))) ≡ None
        → IsLimited (put o.attributes (attribute_of l))
    by (Err r) h = absurd (let e = h in cc)
    by (Ok found) h =
        let front = Refuse (is_directory found) Refusal.IsDirectory ∷ Refuse (list_any (λ a. same a.name (name_of (as_line l))) (attributes_at c path)) Refusal.Exists ∷ [] in
        subst (λ attributes. IsLimited (put attributes (attribute_of l))) held (limited (apply_line (attributes_at c path) (as_line l)) (passes-both front (limit_checks (apply_line (attributes_at c path) (as_line l))) h).1)

-- the object at the path is the only one of its number
module _ (c : Content) (w : IsUnused c) (path : Path) (o : LiveObject) (found : object_at c path ≡ Some o) where
  abbrev test : LiveObject → Bool
  test x = eqb x.object.directory (object-found c path o found).0 && same x.object.name (last_name path)

  alone : (P : LiveObject → Type 0) → P o → AllByRecursion (λ (p : LiveObject). p.object.number ≡ o.object.number → P p) c.objects
  alone P own = all-weaken {P = λ (p : LiveObject). p.object.number ≡ o.object.number → p ≡ o} {Q = λ (p : LiveObject). p.object.number ≡ o.object.number → P p}
      (λ p only is. subst P (sym (only is)) own) c.objects (only-one (λ (o : LiveObject). o.object.number) test 0 c.next_object c.objects w.formed.order.objects_rise o (object-found c path o found).2)

  line-fits : (l : SavedLine) → text_length (put o.attributes (attribute_of l)) ≤ 65536 → IsFit c (AppendsRecord (entry_of o.object (Change (as_line l ∷ [])) None))
  line-fits l few =
      let one = length-append (print_line (as_line l)) [] in
      let le = within o.attributes (attribute_of l) in
      let stay : AllStay c o.object.number (Change (as_line l ∷ [])) = alone (λ p. text_length (put p.attributes (attribute_of l)) ≤ 65536) few in
      found-fit c o test (Change (as_line l ∷ [])) None w.bound (object-found c path o found).2 (omega (arith, le, few, one)) (omega arith) stay

  line-saves : (l : SavedLine) → is_saved_line l ≡ true → length (put o.attributes (attribute_of l)) ≤ 1024 → Saves c (AppendsRecord (entry_of o.object (Change (as_line l ∷ [])) None))
  line-saves l is few =
      let own : AreSavable o.attributes = all-find (λ (x : LiveObject). AreSavable x.attributes) test c.objects o w.can.attributes (object-found c path o found).2 in
      alone (λ p. AreSavable (put p.attributes (attribute_of l))) (lines-attributes o.attributes (as_line l ∷ []) own.0 (is, tt), few)

saved-line-stays : (c : Content) → IsUnused c → (path : Path) (l : SavedLine) → is_saved_line l ≡ true → (d : Content) → restore_line c path (as_line l) ≡ Ok d → IsUnused d
saved-line-stays c w path l is_line d ok =
    let call = accepted c (line_moves c path (as_line l)) (line_checks c path (as_line l)) d ok in
    by (object_at c path) refl call.passes call.is
  where
    by : (o : Option LiveObject) → object_at c path ≡ o → first_refusal (line_checks c path (as_line l)) ≡ None
        → apply_all_seen (option_map_or (λ (o : LiveObject). AppendsRecord (entry_of o.object (Change (as_line l ∷ [])) None) ∷ []) o []) c ≡ d → IsUnused d
    by None found passes is = subst IsUnused is w
    by (Some o) found passes is =
        let e = entry_of o.object (Change (as_line l ∷ [])) None in
        let limits = limit-passes c path l o found passes in
        subst IsUnused is (moved c w (AppendsRecord e) tt (line-fits c w path o found l limits.text) (line-saves c w path o found l is_line limits.count) (served-stays c e refl (served-in c w)) (no-handles e c.handles w.handles))

-- a line that an image may have
record IsOfSaved (line : Line) : Type 0 where
  saved : SavedLine
  text : is_saved_line saved ≡ true
  is : line ≡ as_line saved

of-saved : (line : Line) → IsImageLine line → IsOfSaved line
of-saved (Set name enc value true) is = absurd (let h = is.0 in cc)
of-saved (Set name enc value false) is = record { saved = record { name = name; enc = enc; value = value }; text = is.1; is = refl }
of-saved (Del name) is = absurd is

pub line-stays : (c : Content) → IsUnused c → (path : Path) (line : Line) → IsImageLine line → (d : Content) → restore_line c path line ≡ Ok d → IsUnused d
line-stays c w path line is d ok =
    let l = of-saved line is in
    saved-line-stays c w path l.saved l.text d (ap (restore_line c path) (sym l.is) ∙ ok)

-- ---- of machines

-- what such a call leaves stands for the machine on which its moves were made
stood : (m : Machine) → IsMachine m → (xs : List Move) (checks : List Check) (d : Content) → restored_by (content_of m) xs checks ≡ Ok d → AreLawful (length m.objects) xs → AreAlive (content_of m) xs → IsUnused d → Stands d (apply_all xs m)
stood m made xs checks d ok lawful alive w =
    let after = apply_all-shown xs m (made-of m made) lawful alive in
    let same : d ≡ content_of (apply_all xs m) = sym (accepted (content_of m) xs checks d ok).is ∙ sym after.0 in
    record { made = machine-of (apply_all xs m) after.1 (subst IsContent same w.formed); same = same }

pub directory-machine : (c : Content) → IsUnused c → (path : Path) → IsSavedPath path → (d : Content) → restore_directory c path ≡ Ok d → Becomes (with_directory path) c d
directory-machine c w path text d ok m s =
    stood m s.made (MakesDirectory path ∷ []) (mkdir_checks (content_of m) path) d (ap (λ c. restore_directory c path) (sym s.same) ∙ ok) (tt, tt) (tt, tt) (directory-stays c w path text d ok)

pub object-machine : (c : Content) → IsUnused c → (path : Path) → IsSavedPath path → (d : Content) → restore_object c path ≡ Ok d → Becomes (with_object path) c d
object-machine c w path text d ok m s =
    stood m s.made (Creates (restored_object (content_of m) path) ∷ []) (refused (new_refusal (at (content_of m)) path) ++ object_checks (content_of m) path) d (ap (λ c. restore_object c path) (sym s.same) ∙ ok) (refl, tt) (tt, tt) (object-stays c w path text d ok)

saved-line-machine : (c : Content) → IsUnused c → (path : Path) (l : SavedLine) → is_saved_line l ≡ true → (d : Content) → restore_line c path (as_line l) ≡ Ok d → Becomes (with_line path (as_line l)) c d
saved-line-machine c w path l is_line d ok m s =
    stood m s.made (line_moves (content_of m) path (as_line l)) (line_checks (content_of m) path (as_line l)) d (ap (λ c. restore_line c path (as_line l)) (sym s.same) ∙ ok)
    (by (object_at (content_of m) path) refl).0 (by (object_at (content_of m) path) refl).1 (saved-line-stays c w path l is_line d ok)
  where
    moves : Option LiveObject → List Move
    moves o = option_map_or (λ (o : LiveObject). AppendsRecord (entry_of o.object (Change (as_line l ∷ [])) None) ∷ []) o []

    by : (o : Option LiveObject) → object_at (content_of m) path ≡ o → AreLawful (length m.objects) (moves o) × AreAlive (content_of m) (moves o)
    by None found = (tt, tt)
    by (Some o) found =
        let place = object-found (content_of m) path o found in
        let number : object_numbered (content_of m) o.object.number ≡ Some o =
        all-find (λ (x : LiveObject). object_numbered (content_of m) x.object.number ≡ Some x) (λ x. eqb x.object.directory place.0 && same x.object.name (last_name path)) (content_of m).objects o
        (found-each (λ (x : LiveObject). x.object.number) 0 (content_of m).next_object (content_of m).objects s.made.standing.order.objects_rise) place.2 in
        ((refl, tt), (record { object = o; found = number; in_directory = refl; under_name = refl }, tt))

pub line-machine : (c : Content) → IsUnused c → (path : Path) (line : Line) → IsImageLine line → (d : Content) → restore_line c path line ≡ Ok d → Becomes (with_line path line) c d
line-machine c w path line is d ok =
    let l = of-saved line is in
    subst (λ x. Becomes (with_line path x) c d) (sym l.is) (saved-line-machine c w path l.saved l.text d (ap (restore_line c path) (sym l.is) ∙ ok))
