-- What an Unlink finds at its path, how it is checked, and what it does.
use Rattle.std.specs.Prelude.{◌≡◌, ◌≢◌, ◌↔◌, ◌==◌, ◌&&◌, ◌||◌, ℕ, List, [], ◌∷◌, Bool, true, false, not, nat_lt, Option, Some, None, IsTrue, IfSome, is_some, ok_or, filter, find, length, option_map, option_and_then, Result, Ok, Err}
use Rattle.std.specs.Option.{option_map_or, option_or}
use Rattle.std.specs.List.{AllByRecursion}
use Rattle.std.proofs.Common.{refl, sym, ◌∙◌, ap, subst, cond, arith}
use Rattle.std.proofs.lemmas.Bool.{eqb-true, eq-eqb}
use Rattle.std.proofs.lemmas.Bool.Decides.{nat_tests}
use Rattle.pps_types.specs.declared.refusal.Refusal.{Refusal}
use Rattle.pps_types.specs.declared.refusal.Refusal.TheVariants.{Busy, NotEmpty, NotFound}
use Rattle.pps_types.specs.declared.event.Request.TheVariants.{Unlink}
use Rattle.pps_types.specs.declared.outcome.Outcome.{Outcome}
use Rattle.pps_types.specs.declared.outcome.Outcome.TheVariants.{Done}
use Rattle.pps_types.specs.declared.record.Kind.TheVariants.{Deleted}
use Rattle.pps_types.specs.declared.found.Found.{Found}
use Rattle.pps_types.specs.declared.found.Found.TheVariants.{Object as FoundObject, Directory as FoundDirectory}
use Rattle.pps_types.specs.Bytes.{◌>>=◌, is_empty}
use Rattle.pps_types.specs.Names.{Path, last_name, place, find_at, same_path}
use Rattle.pps_types.specs.OpenText.{path_text}
use Rattle.pps_types.specs.Reading.{OpenHandle, is_directory_kind}
use Rattle.pps_types.specs.Rests.{Progress}
use Rattle.pps_types.specs.Content.{Content, LiveObject, Directory, at, object_at, object_in, directory_at, parent_number, object_numbered, members, subdirectories, has_directory_handle}
use Rattle.pps_types.specs.Checks.{Check, Refuse, first_refusal, parsed, unlink_checks, unlink_found}
use Rattle.pps_types.specs.Plan.{Move, AppendsRecord, RemovesDirectory, entry_of, effect, unlinking}
use Rattle.pps_types.specs.WellFormed.{IsContent, directory_numbered}
use Rattle.service_laws.proofs.Finds.{all-find, find-true}
use Rattle.service_laws.proofs.Rising.{found-each}
use Rattle.service_laws.proofs.Passes.{place-at}
use Rattle.service_laws.proofs.Trees.{same_path-is}
use Rattle.service_laws.specs.Concerned.{is_on_directory}
use Rattle.name_table.specs.Listed.{objects_at, IsBare}

-- ---- what stands there

pub found_stands : (c : Content) (path : Path) (f : Found) → find_at (at c) path ≡ Ok f → at c path ≡ Some f
found_stands c path f e = by (place (at c) path) refl e
  where
    by : (r : Result (Option Found) Refusal) → place (at c) path ≡ r → (r >>= (λ (found : Option Found). ok_or found NotFound)) ≡ Ok f → at c path ≡ Some f
    by (Err s) is e = absurd (let bad = e in cc)
    by (Ok None) is e = absurd (let bad = e in cc)
    by (Ok (Some g)) is e = place-at (at c) path (Some g) is ∙ (let same : g ≡ f = cc in ap Some same)

-- what stands at a path, by what is found of both
abbrev either : Option Directory → Option LiveObject → Option Found
either d o = option_or (option_map (λ (d : Directory). FoundDirectory d.number) d) (option_map (λ (o : LiveObject). FoundObject o.object.number) o)

pub record IsObjectAt (c : Content) (path : Path) (n : ℕ) (o : LiveObject) : Type 0 where
  pub stands : object_at c path ≡ Some o
  pub numbered : object_numbered c n ≡ Some o

pub record IsDirectoryAt (c : Content) (path : Path) (n : ℕ) (d : Directory) : Type 0 where
  pub stands : directory_at c path ≡ Some d
  pub number : d.number ≡ n
  pub path_is : d.path ≡ path
  pub alone : object_at c path ≡ None
  pub numbered : directory_numbered c n ≡ Some d

module _ (c : Content) (w : IsContent c) (path : Path) (n : ℕ) where
  among_objects : (o : LiveObject) → object_at c path ≡ Some o → object_numbered c o.object.number ≡ Some o
  among_objects o e = by path e
    where
      each : AllByRecursion (λ (o : LiveObject). object_numbered c o.object.number ≡ Some o) c.objects
      each = found-each (λ (o : LiveObject). o.object.number) 0 c.next_object c.objects w.order.objects_rise

      by : (p : Path) → object_at c p ≡ Some o → object_numbered c o.object.number ≡ Some o
      by [] e = absurd (let bad = e in cc)
      by (m ∷ ms) e = in_parent (parent_number c (m ∷ ms)) e
        where
          in_parent : (k : Option ℕ) → option_and_then (object_in c (last_name (m ∷ ms))) k ≡ Some o → object_numbered c o.object.number ≡ Some o
          in_parent None e = absurd (let bad = e in cc)
          in_parent (Some k) e = all-find (λ (o : LiveObject). object_numbered c o.object.number ≡ Some o) (λ (x : LiveObject). (x.object.directory == k) && Rattle.pps_types.specs.Bytes.same x.object.name (last_name (m ∷ ms))) c.objects o each e

  pub object_found : at c path ≡ Some (FoundObject n) → (o : LiveObject) × IsObjectAt c path n o
  object_found e = by (directory_at c path) (object_at c path) refl e
    where
      by : (d : Option Directory) (o : Option LiveObject) → object_at c path ≡ o → either d o ≡ Some (FoundObject n) → (o : LiveObject) × IsObjectAt c path n o
      by (Some d) o is e = absurd (let bad = e in cc)
      by None None is e = absurd (let bad = e in cc)
      by None (Some o) is e = let same : o.object.number ≡ n = cc in (o, record { stands = is; numbered = subst (λ k. object_numbered c k ≡ Some o) same (among_objects o is) })

  pub directory_found : at c path ≡ Some (FoundDirectory n) → (d : Directory) × IsDirectoryAt c path n d
  directory_found e = by (directory_at c path) (object_at c path) refl e
    where
      each : AllByRecursion (λ (d : Directory). directory_numbered c d.number ≡ Some d) c.directories
      each = found-each (λ (d : Directory). d.number) 0 c.next_directory c.directories w.order.directories_rise

      by : (d : Option Directory) (o : Option LiveObject) → directory_at c path ≡ d → either d o ≡ Some (FoundDirectory n) → (d : Directory) × IsDirectoryAt c path n d
      by None None is e = absurd (let bad = e in cc)
      by None (Some o) is e = absurd (let bad = e in cc)
      by (Some d) o is e =
          let same : d.number ≡ n = cc in
          let there : d.path ≡ path = same_path-is d.path path (find-true (λ (d : Directory). same_path d.path path) c.directories d is) in (
            d,
            record {
              stands = is;
              number = same;
              path_is = there;
              alone = subst (λ p. object_at c p ≡ None) there (all-find (λ (d : Directory). object_at c d.path ≡ None) (λ (d : Directory). same_path d.path path) c.directories d w.tree.free is);
              numbered = subst (λ k. directory_numbered c k ≡ Some d) same (all-find (λ (d : Directory). directory_numbered c d.number ≡ Some d) (λ (d : Directory). same_path d.path path) c.directories d each is);
            },
          )

-- ---- what stands there, as a directory and as an object

pub numbered_there : (c : Content) → IsContent c → (path : Path) (n : ℕ) → at c path ≡ Some (FoundDirectory n) → option_map (λ (d : Directory). d.number) (directory_at c path) ≡ Some n
numbered_there c w path n e = let found = directory_found c w path n e in ap (option_map (λ (d : Directory). d.number)) found.1.stands ∙ ap Some found.1.number

pub no_directory_there : (c : Content) (path : Path) (n : ℕ) → at c path ≡ Some (FoundObject n) → directory_at c path ≡ None
no_directory_there c path n e = by (directory_at c path) (object_at c path) e
  where
    by : (d : Option Directory) (o : Option LiveObject) → either d o ≡ Some (FoundObject n) → d ≡ None
    by None o e = refl
    by (Some d) o e = absurd (let bad = e in cc)

pub object_there : (c : Content) → IsContent c → (path : Path) (n : ℕ) → at c path ≡ Some (FoundObject n) → object_numbered c n ≡ object_at c path
object_there c w path n e = let found = object_found c w path n e in found.1.numbered ∙ sym found.1.stands

-- ---- the checks

-- whether lists have elements
pub some_in : {X : Type 0} (xs : List X) (b : Bool) → b ≡ nat_lt 0 (length xs) → b ≡ not (is_empty xs)
some_in [] b is = is
some_in (x ∷ xs) b is = let more : nat_lt 0 (length (x ∷ xs)) ≡ true = grind (arith, nat_tests) in is ∙ more

empty_is : {X : Type 0} (xs : List X) → not (is_empty xs) ≡ false → xs ≡ []
empty_is [] e = refl
empty_is (x ∷ xs) e = absurd (let bad = e in cc)

or_none : (a b : Bool) → (a || b) ≡ false → (a ≡ false) × ((b ≡ false) × Unit {0})
or_none true b e = absurd (let bad = e in cc)
or_none false b e = (refl, (e, tt))

-- whether a handle is on a directory
pub used_by : (c : Content) (n : ℕ) (b : Bool) → (IsTrue b ↔ (filter (is_on_directory n) c.handles ≢ [])) → b ≡ has_directory_handle c n
used_by c n b iff = by b iff
  where
    flipped : (h : OpenHandle Progress) → is_on_directory n h ≡ (is_directory_kind h.kind && (h.target == n))
    flipped h = ap (λ x. is_directory_kind h.kind && x) (turned (n == h.target) refl (h.target == n) refl)
      where
        turned : (a : Bool) → (n == h.target) ≡ a → (b : Bool) → (h.target == n) ≡ b → a ≡ b
        turned true p true q = refl
        turned false p false q = refl
        turned true p false q = let bad : false ≡ true = sym q ∙ eq-eqb h.target n (sym (eqb-true n h.target p)) in absurd (let b = bad in cc)
        turned false p true q = let bad : false ≡ true = sym p ∙ eq-eqb n h.target (sym (eqb-true h.target n q)) in absurd (let b = bad in cc)

    found : (hs : List (OpenHandle Progress)) → is_some (find (λ (h : OpenHandle Progress). is_directory_kind h.kind && (h.target == n)) hs) ≡ not (is_empty (filter (is_on_directory n) hs))
    found [] = refl
    found (h ∷ hs) = one (is_directory_kind h.kind && (h.target == n)) (is_on_directory n h) (sym (flipped h)) (found hs)
      where
        one : (a b : Bool) → a ≡ b → is_some (find (λ (h : OpenHandle Progress). is_directory_kind h.kind && (h.target == n)) hs) ≡ not (is_empty (filter (is_on_directory n) hs))
            → is_some (cond a (Some h) (find (λ (h : OpenHandle Progress). is_directory_kind h.kind && (h.target == n)) hs)) ≡ not (is_empty (cond b (h ∷ filter (is_on_directory n) hs) (filter (is_on_directory n) hs)))
        one true true e rest = refl
        one false false e rest = rest
        one true false e rest = absurd (let bad = e in cc)
        one false true e rest = absurd (let bad = e in cc)

    none : (xs : List (OpenHandle Progress)) → (xs ≢ [] → ⊥) → not (is_empty xs) ≡ false
    none [] empty = refl
    none (x ∷ xs) empty = absurd (empty (λ bad. let b = bad in cc))

    there : (xs : List (OpenHandle Progress)) → xs ≢ [] → not (is_empty xs) ≡ true
    there [] more = absurd (more refl)
    there (x ∷ xs) more = refl

    by : (b : Bool) → (IsTrue b ↔ (filter (is_on_directory n) c.handles ≢ [])) → b ≡ has_directory_handle c n
    by true iff = sym (found c.handles ∙ there (filter (is_on_directory n) c.handles) (iff.0 refl))
    by false iff = sym (found c.handles ∙ none (filter (is_on_directory n) c.handles) (λ more. let bad : false ≡ true = iff.1 more in let b = bad in cc))

-- of a directory
pub directory_checked : (c : Content) (path : Path) (n : ℕ) (objects directories used : Bool) → objects ≡ not (is_empty (members c n)) → directories ≡ not (is_empty (subdirectories c path)) → used ≡ has_directory_handle c n
    → first_refusal (Refuse (objects || directories) NotEmpty ∷ Refuse used Busy ∷ []) ≡ first_refusal (unlink_found c path (FoundDirectory n))
directory_checked c path n objects directories used a b d = λ i. first_refusal (Refuse (a i || b i) NotEmpty ∷ Refuse (d i) Busy ∷ [])

-- of what is found
pub unlink_refusal : (c : Content) (path : Path) (empty : Bool) → is_empty path ≡ empty → (r : Result Found Refusal) → r ≡ find_at (at c) path
    → first_refusal (Refuse empty Busy ∷ parsed r (unlink_found c path)) ≡ first_refusal (unlink_checks c path)
unlink_refusal c path empty empty-is r is = λ i. first_refusal (Refuse (sym empty-is i) Busy ∷ parsed (is i) (unlink_found c path))

below_root : (b : Bool) (r : Refusal) (cs : List Check) → first_refusal (Refuse b r ∷ cs) ≡ None → (b ≡ false) × ((first_refusal cs ≡ None) × Unit {0})
below_root true r cs e = absurd (let bad = e in cc)
below_root false r cs e = (refl, (e, tt))

-- a directory that may be removed is bare
pub bare_found : (c : Content) → IsContent c → (path : Path) (n : ℕ) → first_refusal (unlink_checks c path) ≡ None → find_at (at c) path ≡ Ok (FoundDirectory n) → IfSome (directory_numbered c n) (IsBare c)
bare_found c w path n passes is =
    let found = directory_found c w path n (found_stands c path (FoundDirectory n) is) in
    let d : Directory = found.0 in
    let tests = below_root (is_empty path) Busy (parsed (find_at (at c) path) (unlink_found c path)) passes in
    let inner : first_refusal (unlink_found c path (FoundDirectory n)) ≡ None = ap (λ r. first_refusal (parsed r (unlink_found c path))) (sym is) ∙ tests.1.0 in
    let empty = or_none (not (is_empty (members c n))) (not (is_empty (subdirectories c path)))
    (below_root (not (is_empty (members c n)) || not (is_empty (subdirectories c path))) NotEmpty (Refuse (has_directory_handle c n) Busy ∷ []) inner).0 in
    subst (λ o. IfSome o (IsBare c)) (sym found.1.numbered) (record {
      no_objects = ap (members c) found.1.number ∙ empty_is (members c n) empty.0;
      no_directories = ap (subdirectories c) found.1.path_is ∙ empty_is (subdirectories c path) empty.1.0;
      below_root = ap is_empty found.1.path_is ∙ tests.0;
    })

-- ---- what it does

on_path_of : (text : List ℕ) (names : Path) → path_text text ≡ Some names → (f : Path → Outcome × List Move) → option_map_or f (path_text text) (Done, []) ≡ f names
on_path_of text names is f = ap (λ o. option_map_or f o (Done, [])) is

pub object_does : (c : Content) (conn : ℕ) (text : List ℕ) (names : Path) → path_text text ≡ Some names → (o : LiveObject) → object_at c names ≡ Some o → effect c conn (Unlink text) ≡ (Done, AppendsRecord (entry_of o.object Deleted None) ∷ [])
unfolding effect
object_does c conn text names is o there =
    on_path_of text names is (λ names. (Done, unlinking (object_at c names) (directory_at c names)))
    ∙ ap {B = Outcome × List Move} (λ (k : Option LiveObject). (Done, unlinking k (directory_at c names))) there

pub directory_does : (c : Content) (conn : ℕ) (text : List ℕ) (names : Path) → path_text text ≡ Some names → (n : ℕ) (d : Directory) → IsDirectoryAt c names n d → effect c conn (Unlink text) ≡ (Done, RemovesDirectory n ∷ [])
unfolding effect
directory_does c conn text names is n d at =
    on_path_of text names is (λ names. (Done, unlinking (object_at c names) (directory_at c names)))
    ∙ (λ i. (Done, unlinking (at.alone i) (at.stands i)))
    ∙ ap {B = Outcome × List Move} (λ (k : ℕ). (Done, RemovesDirectory k ∷ [])) at.number

-- ---- by what is found of both

-- no directory is there
pub told_does : (c : Content) (conn : ℕ) (text : List ℕ) (names : Path) → path_text text ≡ Some names → directory_at c names ≡ None
    → effect c conn (Unlink text) ≡ (Done, option_map_or (λ e. AppendsRecord e ∷ []) (option_map (λ (o : LiveObject). entry_of o.object Deleted None) (object_at c names)) [])
unfolding effect
told_does c conn text names is none =
    on_path_of text names is (λ names. (Done, unlinking (object_at c names) (directory_at c names)))
    ∙ ap {B = Outcome × List Move} (λ (d : Option Directory). (Done, unlinking (object_at c names) d)) none
    ∙ ap {B = Outcome × List Move} (λ (ms : List Move). (Done, ms)) (by (object_at c names))
  where
    by : (o : Option LiveObject) → unlinking o None ≡ option_map_or (λ e. AppendsRecord e ∷ []) (option_map (λ (o : LiveObject). entry_of o.object Deleted None) o) []
    by None = refl
    by (Some o) = refl

module _ (c : Content) (w : IsContent c) (names : Path) (n : ℕ) (there : option_map (λ (d : Directory). d.number) (directory_at c names) ≡ Some n) where
  stands_there : at c names ≡ Some (FoundDirectory n)
  stands_there = by (directory_at c names) there
    where
      by : (d : Option Directory) → option_map (λ (d : Directory). d.number) d ≡ Some n → either d (object_at c names) ≡ Some (FoundDirectory n)
      by None e = absurd (let bad = e in cc)
      by (Some d) e = let same : d.number ≡ n = cc in ap (λ k. Some (FoundDirectory k)) same

  pub removed_does : (conn : ℕ) (text : List ℕ) → path_text text ≡ Some names → effect c conn (Unlink text) ≡ (Done, RemovesDirectory n ∷ [])
  removed_does conn text is = let found = directory_found c w names n stands_there in directory_does c conn text names is n found.0 found.1

  -- what passes is found
  found_there : first_refusal (unlink_checks c names) ≡ None → find_at (at c) names ≡ Ok (FoundDirectory n)
  found_there passes = by (find_at (at c) names) refl (below_root (is_empty names) Busy (parsed (find_at (at c) names) (unlink_found c names)) passes).1.0
    where
      by : (r : Result Found Refusal) → find_at (at c) names ≡ r → first_refusal (parsed r (unlink_found c names)) ≡ None → find_at (at c) names ≡ Ok (FoundDirectory n)
      by (Err s) is e = absurd (let bad = e in cc)
      by (Ok f) is e =
          let both : Some f ≡ Some (FoundDirectory n) = sym (found_stands c names f is) ∙ stands_there in
          let same : f ≡ FoundDirectory n = cc in
          is ∙ ap Ok same

  pub removed_bare : first_refusal (unlink_checks c names) ≡ None → IfSome (directory_numbered c n) (IsBare c)
  removed_bare passes = bare_found c w names n passes (found_there passes)

-- the directory that a path leads to has the path's objects
pub objects_there : (c : Content) (path : Path) (n : ℕ) → option_map (λ (d : Directory). d.number) (directory_at c path) ≡ Some n → objects_at c path ≡ members c n
objects_there c path n e = by (directory_at c path) e
  where
    by : (d : Option Directory) → option_map (λ (d : Directory). d.number) d ≡ Some n → option_map_or (λ d. members c d.number) d [] ≡ members c n
    by None e = absurd (let bad = e in cc)
    by (Some d) e = let same : d.number ≡ n = cc in ap (members c) same

-- a directory that is found at a path is the one there
pub directory_there : (c : Content) (path : Path) (n : ℕ) → at c path ≡ Some (FoundDirectory n) → option_map (λ (d : Directory). d.number) (directory_at c path) ≡ Some n
directory_there c path n e = by (directory_at c path) (object_at c path) e
  where
    by : (d : Option Directory) (o : Option LiveObject) → either d o ≡ Some (FoundDirectory n) → option_map (λ (d : Directory). d.number) d ≡ Some n
    by None None e = absurd (let bad = e in cc)
    by None (Some o) e = absurd (let bad = e in cc)
    by (Some d) o e = let same : d.number ≡ n = cc in ap Some same
