-- What an event that no check refuses does is fit.
use Rattle.std.proofs.Common.{◌≡◌, ◌<◌, ℕ, ◌+◌, Bool, true, false, cond, not, ◌&&◌, ◌||◌, eqb, eqb-true, eq-eqb, List, [], ◌∷◌, ◌++◌, Option, Some, None, Result, Ok, Err, refl, sym, ap, subst, ◌∙◌, arith}
use Rattle.std.specs.Prelude.{find, is_some, is_none, filter, option_map, option_and_then, unwrap_or, ok_or, nat_le}
use Rattle.std.specs.Option.{option_map_or, option_or}
use Rattle.std.specs.List.{AllByRecursion, flat_map}
use Rattle.std.specs.Cmp.Lexicographic.{same_text}
use Rattle.std.proofs.lemmas.Bool.Decides.{nat_tests}
use Rattle.pps_types.specs.declared.event.Event.{Event}
use Rattle.pps_types.specs.declared.event.Request.{Request}
use Rattle.pps_types.specs.declared.event.Request.TheVariants.{Attach, Detach, Open as OpenRequest, Read, Write, Close, Unlink, Mkdir, List as ListRequest, Notify, Receive}
use Rattle.pps_types.specs.declared.event.Mode.{Mode}
use Rattle.pps_types.specs.declared.found.Found.{Found}
use Rattle.pps_types.specs.declared.found.Found.TheVariants.{Object as FoundObject, Directory as FoundDirectory}
use Rattle.pps_types.specs.declared.outcome.Outcome.{Outcome}
use Rattle.pps_types.specs.declared.outcome.Outcome.TheVariants.{Done, Opened as OpenedHandle}
use Rattle.pps_types.specs.declared.outcome.Item.{Item}
use Rattle.pps_types.specs.declared.outcome.Item.TheVariants.{ReadDone}
use Rattle.pps_types.specs.declared.refusal.Refusal.TheVariants.{BadHandle}
use Rattle.pps_types.specs.declared.refusal.Refusal.{Refusal}
use Rattle.pps_types.specs.declared.record.Kind.{Kind}
use Rattle.pps_types.specs.declared.record.Kind.TheVariants.{Deleted, Dropped, Truncated, Opened}
use Rattle.pps_types.specs.declared.handle_kind.HandleKind.{HandleKind}
use Rattle.pps_types.specs.declared.handle_kind.HandleKind.TheVariants.{Object as ObjectHandle, Directory as DirectoryHandle, Names as NamesHandle, Server as ServerHandle, Client as ClientHandle}
use Rattle.pps_types.specs.Bytes.{same, is_empty, ◌>>=◌}
use Rattle.pps_types.specs.Names.{Name, Path, same_path, parent, last_name, name_cmp, beyond, place, find_at, new_refusal, refusal_of, is_directory}
use Rattle.pps_types.specs.OpenText.{OpenSpec, open_text, path_text}
use Rattle.pps_types.specs.Text.{WriteText, write_text}
use Rattle.pps_types.specs.Outbox.{first_of}
use Rattle.pps_types.specs.Reading.{OpenHandle, is_directory_kind, Answer, Everything, Blocks, Needs, TargetGone, Waits, Nothing}
use Rattle.pps_types.specs.Rests.{Progress}
use Rattle.pps_types.specs.Content.{Directory, LiveObject, Content, directory_at, parent_number, object_at, object_in, object_numbered, at, members, subdirectories, handles_of, has_directory_handle, is_attached, queue_of, news, read_answer, own_handle}
use Rattle.pps_types.specs.Checks.{attach_checks, Check, Refuse, Memory, first_refusal, refused, parsed, letters_fit, mode_fits, handle_checks, found_as, all_checks, is_used, object_checks, name_checks, open_checks, on_path, unlink_checks, unlink_found, mkdir_checks, checks}
use Rattle.pps_types.specs.Plan.{Move, Attaches, Leaves, Creates, AppendsRecord, Opens, Closes, Queues, MakesDirectory, apply_seen, apply_all_seen, entry_of, touched, effect, plan, step_seen, decided, all_checks_of, passes_last_number, settling, settling_handle, fired, late_replies, late_reply, had_news, opening, new_object, new_handle, kind_opened, target_of, found_object, writing, written_kind, on_target, closing, closings, parting, unlinking, received, read_effect, with_path, with_result}
use Rattle.pps_types.specs.WellFormed.{IsTarget}
use Rattle.pps_types.proofs.Lists.{all-without_first}
use Rattle.service_laws.proofs.Settlings.{all-append, all-or, all-cond, moves-append}
use Rattle.service_laws.proofs.Finds.{OfSome, some-of, and-both, all-both, all-imp, all-find, all-left, find-other, none-all, all-none, filter-empty, sorted-empty}
use Rattle.service_laws.proofs.Rising.{rising-below, none-left}
use Rattle.service_laws.proofs.Fits.{IsFree, IsPlaced, IsEmptied, Fits, AreFit, IsSafe, AreSafe, fit-append, safe-fit, Order, Tree}
use Rattle.service_laws.proofs.Trees.{of_name, object-at}
use Rattle.service_laws.proofs.Holders.{Basis, basis-after, all-offered}

-- ---- checks that pass

-- each test, where no check fails
abbrev pub AllPass : List Check → Type 0
AllPass [] = Unit {0}
AllPass (Refuse fails r ∷ cs) = (fails ≡ false) × AllPass cs
AllPass (Memory ∷ cs) = AllPass cs

pub all-pass : (cs : List Check) → first_refusal cs ≡ None → AllPass cs
all-pass [] p = tt
all-pass (Memory ∷ cs) p = all-pass cs p
all-pass (Refuse true r ∷ cs) p = absurd (let h = p in cc)
all-pass (Refuse false r ∷ cs) p = (refl, all-pass cs p)

pub none-fails : (cs : List Check) → AllPass cs → first_refusal cs ≡ None
none-fails [] p = refl
none-fails (Memory ∷ cs) p = none-fails cs p
none-fails (Refuse fails r ∷ cs) p = rw p.0 (none-fails cs p.1)

pub passes-both : (xs ys : List Check) → first_refusal (xs ++ ys) ≡ None → (first_refusal xs ≡ None) × (first_refusal ys ≡ None)
passes-both [] ys p = (refl, p)
passes-both (Memory ∷ xs) ys p = passes-both xs ys p
passes-both (Refuse true r ∷ xs) ys p = absurd (let h = p in cc)
passes-both (Refuse false r ∷ xs) ys p = passes-both xs ys p

pub behind : (fails : Bool) (r : Refusal) (cs : List Check) → first_refusal (Refuse fails r ∷ cs) ≡ None → (fails ≡ false) × (first_refusal cs ≡ None)
behind true r cs p = absurd (let h = p in cc)
behind false r cs p = (refl, p)

pub not-false : (b : Bool) → not b ≡ false → b ≡ true
not-false true e = refl
not-false false e = absurd (let h = e in cc)

pub or-false : (a b : Bool) → (a || b) ≡ false → (a ≡ false) × (b ≡ false)
or-false true b e = absurd (let h = e in cc)
or-false false b e = (refl, e)

-- ---- ways

abbrev pub IsDirectoryFound : Option Found → Type 0
IsDirectoryFound (Some (FoundDirectory number)) = Unit {0}
IsDirectoryFound _ = ⊥

-- what has a place has a directory above it
pub place-parent : (at : Path → Option Found) (n : Name) (ns : Path) (found : Option Found) → place at (n ∷ ns) ≡ Ok found → IsDirectoryFound (at (parent (n ∷ ns)))
place-parent at n [] found e = go (at []) e
  where
    go : (o : Option Found) → beyond o (Ok (at (n ∷ []))) ≡ Ok found → IsDirectoryFound o
    go None e = absurd (let h = e in cc)
    go (Some (FoundObject number)) e = absurd (let h = e in cc)
    go (Some (FoundDirectory number)) e = tt
place-parent at n (m ∷ ms) found e = go (at []) e (place-parent (λ p. at (n ∷ p)) m ms found)
  where
    go : (o : Option Found) → beyond o (place (λ p. at (n ∷ p)) (m ∷ ms)) ≡ Ok found → (place (λ p. at (n ∷ p)) (m ∷ ms) ≡ Ok found → IsDirectoryFound (at (n ∷ parent (m ∷ ms)))) → IsDirectoryFound (at (n ∷ parent (m ∷ ms)))
    go None e rest = absurd (let h = e in cc)
    go (Some (FoundObject number)) e rest = absurd (let h = e in cc)
    go (Some (FoundDirectory number)) e rest = rest e

-- what has a place stands there
pub place-at : (at : Path → Option Found) (path : Path) (found : Option Found) → place at path ≡ Ok found → at path ≡ found
place-at at [] found e = cc
place-at at (n ∷ ns) found e = go (at []) e (place-at (λ p. at (n ∷ p)) ns found)
  where
    go : (o : Option Found) → beyond o (place (λ p. at (n ∷ p)) ns) ≡ Ok found → (place (λ p. at (n ∷ p)) ns ≡ Ok found → at (n ∷ ns) ≡ found) → at (n ∷ ns) ≡ found
    go None e rest = absurd (let h = e in cc)
    go (Some (FoundObject number)) e rest = absurd (let h = e in cc)
    go (Some (FoundDirectory number)) e rest = rest e

-- a directory that is found is one of the directories
pub at-directory : (c : Content) (path : Path) → IsDirectoryFound (at c path) → is_some (directory_at c path) ≡ true
at-directory c path is = go (directory_at c path) (object_at c path) is
  where
    go : (d : Option Directory) (o : Option LiveObject) → IsDirectoryFound (option_or (option_map (λ (d : Directory). FoundDirectory d.number) d) (option_map (λ (o : LiveObject). FoundObject o.object.number) o)) → is_some d ≡ true
    go None None is = absurd is
    go None (Some o) is = absurd is
    go (Some d) o is = refl

at-none : (c : Content) (path : Path) → at c path ≡ None → (directory_at c path ≡ None) × (object_at c path ≡ None)
at-none c path e = go (directory_at c path) (object_at c path) e
  where
    go : (d : Option Directory) (o : Option LiveObject) → option_or (option_map (λ (d : Directory). FoundDirectory d.number) d) (option_map (λ (o : LiveObject). FoundObject o.object.number) o) ≡ None → (d ≡ None) × (o ≡ None)
    go None None e = (refl, refl)
    go None (Some o) e = absurd (let h = e in cc)
    go (Some d) o e = absurd (let h = e in cc)

pub not-directory : (c : Content) (path : Path) → found_as is_directory (at c path) ≡ false → directory_at c path ≡ None
not-directory c path e = go (directory_at c path) (object_at c path) e
  where
    go : (d : Option Directory) (o : Option LiveObject) → found_as is_directory (option_or (option_map (λ (d : Directory). FoundDirectory d.number) d) (option_map (λ (o : LiveObject). FoundObject o.object.number) o)) ≡ false → d ≡ None
    go None o e = refl
    go (Some d) o e = absurd (let h = e in cc)

-- a place where no directory is has one above it
pub above-place : (c : Content) → Tree c → (path : Path) (found : Option Found) → place (at c) path ≡ Ok found → directory_at c path ≡ None → is_some (directory_at c (parent path)) ≡ true
above-place c t [] found placed none = absurd (let no = sym none ∙ t.0 in cc)
above-place c t (n ∷ ns) found placed none = at-directory c (parent (n ∷ ns)) (place-parent (at c) n ns found placed)

pub free-place : (c : Content) → Tree c → (path : Path) → place (at c) path ≡ Ok None → IsFree c path
free-place c t path placed =
    let none = at-none c path (place-at (at c) path None placed) in
    record { directory = none.0; object = none.1; above = above-place c t path None placed none.0 }

-- ---- safe moves

safe-flat : {X : Type 0} (f : X → List Move) → ((x : X) → AreSafe (f x)) → (xs : List X) → AreSafe (flat_map f xs)
safe-flat f p [] = tt
safe-flat f p (x ∷ xs) = all-append IsSafe (f x) (flat_map f xs) (p x) (safe-flat f p xs)

pub late_reply-safe : (h : OpenHandle Progress) (a : Answer) → AreSafe (late_reply h a)
late_reply-safe h (Everything text) = ((λ c. tt), ((λ c. tt), ((λ c. tt), tt)))
late_reply-safe h (Blocks count text) = ((λ c. tt), ((λ c. tt), ((λ c. tt), tt)))
late_reply-safe h (Needs need) = ((λ c. tt), ((λ c. tt), tt))
late_reply-safe h TargetGone = tt
late_reply-safe h Waits = tt
late_reply-safe h Nothing = tt

pub settling-safe : (before c : Content) → AreSafe (settling before c)
unfolding settling
settling-safe before c = safe-flat (settling_handle before c) (λ h. all-cond IsSafe (not (had_news before h) && news h) (fired h ++ late_replies c h) []
    (all-append IsSafe (fired h) (late_replies c h) (all-or IsSafe _ (λ pulse. ((λ c. tt), ((λ c. tt), tt))) h.armed) (all-or IsSafe _ (λ size. late_reply-safe h (read_answer c h size)) h.parked)) tt) c.handles

on_target-safe : (c : Content) (h : OpenHandle Progress) (kind : Kind) (writer : Option ℕ) → AreSafe (on_target c h kind writer)
on_target-safe c h kind writer = all-or IsSafe _ (λ o. ((λ c. tt), tt)) (object_numbered c h.target)

parting-safe : (c : Content) (h : OpenHandle Progress) (k : HandleKind) → AreSafe (parting c h k)
parting-safe c h ServerHandle = on_target-safe c h _ None
parting-safe c h ClientHandle = on_target-safe c h _ None
parting-safe c h NamesHandle = tt
parting-safe c h (ObjectHandle delta) = all-cond IsSafe (h.options.critical && h.writes) _ [] (on_target-safe c h Dropped None) tt
parting-safe c h (DirectoryHandle delta) = tt

pub closing-safe : (c : Content) (h : OpenHandle Progress) → AreSafe (closing c h)
closing-safe c h = ((λ c. tt), all-append IsSafe _ (parting c h h.kind) (all-cond IsSafe (is_some h.parked) _ [] ((λ c. tt), tt) tt) (parting-safe c h h.kind))

closings-safe : (c : Content) (hs : List (OpenHandle Progress)) → AreSafe (closings c hs)
closings-safe c [] = tt
closings-safe c (h ∷ hs) = all-append IsSafe (closing c h) (closings (apply_all_seen (closing c h) c) hs) (closing-safe c h) (closings-safe (apply_all_seen (closing c h) c) hs)

writing-safe : (c : Content) (h : OpenHandle Progress) (text : WriteText) → AreSafe (writing c h text)
writing-safe c h text = all-cond IsSafe (is_empty text.lines) [] _ tt (on_target-safe c h (written_kind c h h.kind text) (Some h.number))

read_effect-safe : (h : OpenHandle Progress) (size : ℕ) (a : Answer) → AreSafe (read_effect h size a).1
read_effect-safe h size (Everything text) = ((λ c. tt), tt)
read_effect-safe h size (Blocks count text) = ((λ c. tt), tt)
read_effect-safe h size Waits = ((λ c. tt), tt)
read_effect-safe h size (Needs need) = tt
read_effect-safe h size TargetGone = tt
read_effect-safe h size Nothing = tt

safe-outcome : {X : Type 0} (f : X → Outcome × List Move) → ((x : X) → AreSafe (f x).1) → (o : Option X) → AreSafe (option_map_or f o (Done, [])).1
safe-outcome f p None = tt
safe-outcome f p (Some x) = p x

safe-result : {X : Type 0} (f : X → Outcome × List Move) → ((x : X) → AreSafe (f x).1) → (r : Result X Refusal) → AreSafe (with_result r f).1
safe-result f p (Err e) = tt
safe-result f p (Ok x) = p x

received-safe : (conn : ℕ) (i : Option Item) → AreSafe (received conn i).1
received-safe conn None = tt
received-safe conn (Some i) = ((λ c. tt), tt)

-- ---- Mkdir and Unlink

mkdir-fit : (c : Content) → Tree c → (names : Path) → first_refusal (mkdir_checks c names) ≡ None → Fits c (MakesDirectory names)
mkdir-fit c t names p = go (place (at c) names) refl (passes-both (refused (new_refusal (at c) names)) _ p).0
  where
    go : (r : Result (Option Found) Refusal) → place (at c) names ≡ r → first_refusal (refused (refusal_of (r >>= (λ found. cond (is_some found) (Err Refusal.Exists) (Ok found))))) ≡ None → IsFree c names
    go (Err r) e p = absurd (let h = p in cc)
    go (Ok (Some found)) e p = absurd (let h = p in cc)
    go (Ok None) e p = free-place c t names e

has-none : (c : Content) (number : ℕ) → has_directory_handle c number ≡ false → AllByRecursion (λ (h : OpenHandle Progress). (is_directory_kind h.kind && eqb h.target number) ≡ false) c.handles
has-none c number e = none-all (λ (h : OpenHandle Progress). is_directory_kind h.kind && eqb h.target number) c.handles (go (find (λ (h : OpenHandle Progress). is_directory_kind h.kind && eqb h.target number) c.handles) e)
  where
    go : (o : Option (OpenHandle Progress)) → is_some o ≡ false → o ≡ None
    go None e = refl
    go (Some h) e = absurd (let no = e in cc)

unlink-fit : (c : Content) (names : Path) → first_refusal (unlink_checks c names) ≡ None → AreFit c (unlinking (object_at c names) (directory_at c names))
unlink-fit c names p = go (object_at c names) (directory_at c names) refl
  where
    tests : (is_empty names ≡ false) × (first_refusal (parsed (find_at (at c) names) (unlink_found c names)) ≡ None)
    tests = behind (is_empty names) Refusal.Busy (parsed (find_at (at c) names) (unlink_found c names)) p

    emptied : (d : Directory) → directory_at c names ≡ Some d → IsEmptied c d.number
    emptied d e = by (place (at c) names) refl tests.1
      where
        found-is : at c names ≡ Some (FoundDirectory d.number)
        found-is = ap (λ d. option_or (option_map (λ (d : Directory). FoundDirectory d.number) d) (option_map (λ (o : LiveObject). FoundObject o.object.number) (object_at c names))) e

        with : (found : Option Found) → found ≡ Some (FoundDirectory d.number) → first_refusal (parsed (ok_or found Refusal.NotFound) (unlink_found c names)) ≡ None → IsEmptied c d.number
        with found is q =
            let now : first_refusal (unlink_found c names (FoundDirectory d.number)) ≡ None = rw is at q in
            let pass = all-pass (unlink_found c names (FoundDirectory d.number)) now in
            let bare = or-false (not (is_empty (members c d.number))) (not (is_empty (subdirectories c names))) pass.0 in
            record {
              path = names;
              directory = d;
              found = e;
              own = refl;
              not_root = tests.0;
              no_objects = filter-empty (λ (o : LiveObject). eqb o.object.directory d.number) c.objects (sorted-empty name_cmp (λ (o : LiveObject). o.object.name) (filter (λ (o : LiveObject). eqb o.object.directory d.number) c.objects) (not-false (is_empty (members c d.number)) bare.0));
              no_directories = filter-empty (λ (r : Directory). not (same_path r.path []) && same_path (parent r.path) names) c.directories (not-false (is_empty (subdirectories c names)) bare.1);
              no_handles = has-none c d.number pass.1.0;
            }

        by : (r : Result (Option Found) Refusal) → place (at c) names ≡ r → first_refusal (parsed (r >>= (λ found. ok_or found Refusal.NotFound)) (unlink_found c names)) ≡ None → IsEmptied c d.number
        by (Err r) f q = absurd (let h = q in cc)
        by (Ok found) f q = with found (sym (place-at (at c) names found f) ∙ found-is) q

    go : (o : Option LiveObject) (d : Option Directory) → directory_at c names ≡ d → AreFit c (unlinking o d)
    go (Some o) d e = (tt, tt)
    go None None e = tt
    go None (Some d) e = (emptied d e, tt)

fit-path : (c : Content) (text : List ℕ) (f : Path → Outcome × List Move) (test : Path → List Check) → ((names : Path) → first_refusal (test names) ≡ None → AreFit c (f names).1) → first_refusal (on_path text test) ≡ None → AreFit c (with_path text f).1
fit-path c text f test fit p = go (path_text text) p
  where
    go : (o : Option Path) → first_refusal (parsed (ok_or o Refusal.BadPath) test) ≡ None → AreFit c (option_map_or f o (Done, [])).1
    go None p = tt
    go (Some names) p = fit names p

-- ---- Open

-- where an object stands at a path, it lies in the directory above it
pub object-found : (c : Content) (names : Path) (o : LiveObject) → object_at c names ≡ Some o → (k : ℕ) × (parent_number c names ≡ Some k) × (object_in c (last_name names) k ≡ Some o)
object-found c [] o e = absurd (let h = e in cc)
object-found c (n ∷ ns) o e = go (parent_number c (n ∷ ns)) refl e
  where
    go : (p : Option ℕ) → parent_number c (n ∷ ns) ≡ p → option_and_then (object_in c (last_name (n ∷ ns))) p ≡ Some o → (k : ℕ) × (parent_number c (n ∷ ns) ≡ Some k) × (object_in c (last_name (n ∷ ns)) k ≡ Some o)
    go None e f = absurd (let h = f in cc)
    go (Some k) e f = (k, e, f)

-- once an object is deleted, none has its name in its directory
deleted-in : (c : Content) → Tree c → (name : Name) (k : ℕ) (o : LiveObject) → object_in c name k ≡ Some o → object_in (apply_seen (AppendsRecord (entry_of o.object Deleted None)) c) name k ≡ None
deleted-in c t name k o found = all-none (of_name name k) _ (all-left (λ (x : LiveObject). object_in c x.object.name x.object.directory ≡ Some x) (λ (x : LiveObject). of_name name k x ≡ false) (touched (entry_of o.object Deleted None)) one c.objects t.4)
  where
    one : (x : LiveObject) → object_in c x.object.name x.object.directory ≡ Some x → OfSome (λ (x : LiveObject). of_name name k x ≡ false) (touched (entry_of o.object Deleted None) x)
    one x own = go (eqb o.object.number x.object.number) refl
      where
        go : (b : Bool) → eqb o.object.number x.object.number ≡ b → OfSome (λ (x : LiveObject). of_name name k x ≡ false) (cond b None (Some x))
        go true e = tt
        go false e = by (of_name name k x) refl
          where
            by : (t : Bool) → of_name name k x ≡ t → t ≡ false
            by false e = refl
            by true pass =
                let both = and-both (eqb x.object.directory k) (same x.object.name name) pass in
                let named : x.object.name ≡ name = same_text x.object.name name (sym both.1) in
                let lies : x.object.directory ≡ k = eqb-true x.object.directory k both.0 in
                let is : Some o ≡ Some x = sym found ∙ (λ i. find (of_name (sym named i) (sym lies i)) c.objects) ∙ own in
                let same_known : o ≡ x = cc in
                let yes : eqb o.object.number x.object.number ≡ true = eq-eqb o.object.number x.object.number (ap (λ (x : LiveObject). x.object.number) same_known) in
                cc

deleted-at : (c : Content) → Tree c → (names : Path) (o : LiveObject) → object_at c names ≡ Some o → object_at (apply_seen (AppendsRecord (entry_of o.object Deleted None)) c) names ≡ None
deleted-at c t [] o found = refl
deleted-at c t (n ∷ ns) o found =
    let f = object-found c (n ∷ ns) o found in
    object-at (apply_seen (AppendsRecord (entry_of o.object Deleted None)) c) n ns f.0 f.1 ∙ deleted-in c t (last_name (n ∷ ns)) f.0 o f.2

unwrap-some : (o : Option ℕ) → is_some o ≡ true → o ≡ Some (unwrap_or o 0)
unwrap-some None e = absurd (let h = e in cc)
unwrap-some (Some n) e = refl

-- an object that is made at a free path
placed-new : (c d : Content) (spec : OpenSpec) → d.directories ≡ c.directories → IsFree d spec.names → IsPlaced d (new_object c spec)
placed-new c d spec same free = record {
  path = spec.names;
  at_free = free;
  number = ap (λ ds. option_map (λ (d : Directory). d.number) (find (λ d. same_path d.path (parent spec.names)) ds)) same
      ∙ unwrap-some (parent_number c spec.names) (by (directory_at c (parent spec.names)) (ap (λ ds. is_some (find (λ (d : Directory). same_path d.path (parent spec.names)) ds)) (sym same) ∙ free.above));
  name = refl;
}
  where
    by : (o : Option Directory) → is_some o ≡ true → is_some (option_map (λ (d : Directory). d.number) o) ≡ true
    by None e = e
    by (Some d) e = refl

object-kind : (spec : OpenSpec) (found : Option LiveObject) → spec.all ≡ false → is_directory_kind (kind_opened spec found) ≡ false
object-kind spec found all = rw all (go spec.options.server (option_map_or (λ o. is_some o.object.server) found false))
  where
    go : (server client : Bool) → is_directory_kind (cond server ServerHandle (cond client ClientHandle (ObjectHandle spec.options.delta))) ≡ false
    go true client = refl
    go false true = refl
    go false false = refl

object-target : (d : Content) (t : ℕ) (kind : HandleKind) → is_directory_kind kind ≡ false → t < d.next_object → IsTarget d t (is_directory_kind kind)
object-target d t kind e lt = subst (IsTarget d t) (sym e) lt

pub all-kind : (mode : Mode) (spec : OpenSpec) → spec.all ≡ true → mode_fits mode spec ≡ true → is_directory_kind (kind_opened spec None) ≡ true
all-kind mode spec all fits = rw (no-server, all) (by spec.options.deltadir)
  where
    no-server : spec.options.server ≡ false
    no-server = go spec.options.server mode.w mode.c mode.t mode.r (subst (λ a. (not (a && (mode.w || mode.c || mode.t)) && not (spec.options.server && not (mode.r && mode.w))) ≡ true) all fits)
      where
        go : (server w x t r : Bool) → (not (true && (w || x || t)) && not (server && not (r && w))) ≡ true → server ≡ false
        go false w x t r e = refl
        go true true x t r e = absurd (let h = e in cc)
        go true false true t r e = absurd (let h = e in cc)
        go true false false true r e = absurd (let h = e in cc)
        go true false false false true e = absurd (let h = e in cc)
        go true false false false false e = absurd (let h = e in cc)

    by : (b : Bool) → is_directory_kind (cond b NamesHandle (DirectoryHandle spec.options.delta)) ≡ true
    by true = refl
    by false = refl

module _ (c : Content) (b : Basis c) (conn : ℕ) (attached : is_attached c conn ≡ true) (mode : Mode) (spec : OpenSpec) where
  -- nothing is there
  open-new : spec.all ≡ false → IsFree c spec.names → AreFit c (opening c conn mode spec None)
  open-new all free = subst (λ a. AreFit c (cond a [] (Creates (new_object c spec) ∷ []) ++ Opens (new_handle c conn mode spec None) ∷ [])) (sym all)
      ((refl, placed-new c c spec refl free), ((refl, attached, object-target after (target_of c spec None) (kind_opened spec None) (object-kind spec None all) (rw all (target spec.options.server))), tt))
    where
      after : Content
      after = apply_seen (Creates (new_object c spec)) c

      target : (s : Bool) → cond s c.next_object c.next_object < c.next_object + 1
      target true = omega arith
      target false = omega arith

  -- an object is there
  open-found : spec.all ≡ false → directory_at c spec.names ≡ None → is_some (directory_at c (parent spec.names)) ≡ true → (o : LiveObject) → object_at c spec.names ≡ Some o → AreFit c (opening c conn mode spec (Some o))
  open-found all none above o found = go spec.options.server refl (is_some o.object.server) mode.t
    where
      H : OpenHandle (Unit {0})
      H = new_handle c conn mode spec (Some o)

      plain : is_directory_kind (kind_opened spec (Some o)) ≡ false
      plain = object-kind spec (Some o) all

      below : o.object.number < c.next_object
      below =
          let f = object-found c spec.names o found in
          all-find (λ (x : LiveObject). x.object.number < c.next_object) (of_name (last_name spec.names) f.0) c.objects o (rising-below (λ (x : LiveObject). x.object.number) 0 c.next_object c.objects b.order.1) f.2

      new : spec.options.server ≡ true → H.target ≡ c.next_object
      new s = rw (all, s) refl

      old : spec.options.server ≡ false → H.target ≡ o.object.number
      old s = rw (all, s) refl

      free : IsFree (apply_seen (AppendsRecord (entry_of o.object Deleted None)) c) spec.names
      free = record { directory = none; object = deleted-at c b.tree spec.names o found; above = above }

      go : (s : Bool) → spec.options.server ≡ s → (k t : Bool) → AreFit c (cond s (AppendsRecord (entry_of o.object Deleted None) ∷ Creates (new_object c spec) ∷ []) (cond k (AppendsRecord (entry_of o.object (Opened c.next_handle) None) ∷ []) (cond t (AppendsRecord (entry_of o.object Truncated None) ∷ []) [])) ++ Opens H ∷ [])
      go true s k t = (tt, ((refl, placed-new c (apply_seen (AppendsRecord (entry_of o.object Deleted None)) c) spec refl free), ((refl, attached, object-target (apply_seen (Creates (new_object c spec)) c) H.target H.kind plain (rw (new s) (omega arith))), tt)))
      go false s true t = (tt, ((refl, attached, object-target c H.target H.kind plain (rw (old s) below)), tt))
      go false s false true = (tt, ((refl, attached, object-target c H.target H.kind plain (rw (old s) below)), tt))
      go false s false false = ((refl, attached, object-target c H.target H.kind plain (rw (old s) below)), tt)

  -- a whole directory
  open-all : spec.all ≡ true → mode_fits mode spec ≡ true → is_some (directory_at c spec.names) ≡ true → AreFit c (opening c conn mode spec None)
  open-all all fits stands = subst (λ a. AreFit c (cond a [] (Creates (new_object c spec) ∷ []) ++ Opens (new_handle c conn mode spec None) ∷ [])) (sym all)
      ((refl, attached, target), tt)
    where
      d : (d : Directory) × (directory_at c spec.names ≡ Some d)
      d = some-of (directory_at c spec.names) stands

      number : target_of c spec None ≡ d.0.number
      number = rw all (ap (λ o. option_map_or (λ (d : Directory). d.number) o 0) d.1)

      target : IsTarget c (target_of c spec None) (is_directory_kind (kind_opened spec None))
      target = subst (IsTarget c (target_of c spec None)) (sym (all-kind mode spec all fits)) (rw number (find-other (λ (r : Directory). same_path r.path spec.names) (λ (r : Directory). eqb r.number d.0.number) c.directories d.0 d.1 (eq-eqb d.0.number d.0.number refl)))

  pub opening-fit : first_refusal (open_checks c mode spec) ≡ None → AreFit c (opening c conn mode spec (found_object c spec))
  opening-fit p = placed (place (at c) spec.names) refl tests.1
    where
      tests : (not (mode_fits mode spec) ≡ false) × (first_refusal (parsed (place (at c) spec.names) (λ found. cond spec.all (all_checks c found) (name_checks c mode spec found))) ≡ None)
      tests = behind (not (mode_fits mode spec)) Refusal.BadMode (parsed (place (at c) spec.names) (λ found. cond spec.all (all_checks c found) (name_checks c mode spec found))) p

      by-all : (found : Option Found) → place (at c) spec.names ≡ Ok found → first_refusal (all_checks c found) ≡ None → is_some (directory_at c spec.names) ≡ true
      by-all None e q = absurd (let h = q in cc)
      by-all (Some (FoundObject number)) e q = absurd (let h = q in cc)
      by-all (Some (FoundDirectory number)) e q = at-directory c spec.names (subst IsDirectoryFound (sym (place-at (at c) spec.names (Some (FoundDirectory number)) e)) tt)

      by-name : spec.all ≡ false → (found : Option Found) → place (at c) spec.names ≡ Ok found → first_refusal (name_checks c mode spec found) ≡ None → AreFit c (opening c conn mode spec (object_at c spec.names))
      by-name all found e q = go (object_at c spec.names) refl
        where
          no-directory : directory_at c spec.names ≡ None
          no-directory =
              let first = passes-both (Refuse (is_none found && not mode.c) Refusal.NotFound ∷ Refuse (found_as is_directory found) Refusal.IsDirectory ∷ Refuse (spec.options.server && found_as (is_used c) found) Refusal.Busy ∷ []) (handle_checks c ++ cond (is_none found) (object_checks c spec.names) []) q in
              let pass = all-pass (Refuse (is_none found && not mode.c) Refusal.NotFound ∷ Refuse (found_as is_directory found) Refusal.IsDirectory ∷ Refuse (spec.options.server && found_as (is_used c) found) Refusal.Busy ∷ []) first.0 in
              not-directory c spec.names (ap (found_as is_directory) (place-at (at c) spec.names found e) ∙ pass.1.0)

          above : is_some (directory_at c (parent spec.names)) ≡ true
          above = above-place c b.tree spec.names found e no-directory

          go : (o : Option LiveObject) → object_at c spec.names ≡ o → AreFit c (opening c conn mode spec o)
          go None f = open-new all (record { directory = no-directory; object = f; above = above })
          go (Some o) f = open-found all no-directory above o f

      by : (all : Bool) → spec.all ≡ all → (found : Option Found) → place (at c) spec.names ≡ Ok found → first_refusal (cond all (all_checks c found) (name_checks c mode spec found)) ≡ None → AreFit c (opening c conn mode spec (cond all None (object_at c spec.names)))
      by true all found e q = open-all all (not-false (mode_fits mode spec) tests.0) (by-all found e q)
      by false all found e q = by-name all found e q

      placed : (r : Result (Option Found) Refusal) → place (at c) spec.names ≡ r → first_refusal (parsed r (λ found. cond spec.all (all_checks c found) (name_checks c mode spec found))) ≡ None → AreFit c (opening c conn mode spec (found_object c spec))
      placed (Err r) e q = absurd (let h = q in cc)
      placed (Ok found) e q = by spec.all refl found e q

-- ---- Detach

-- what is left of a connection's handles is among those that are still to be closed
abbrev IsLeft : List (OpenHandle Progress) → OpenHandle Progress → Type 0
IsLeft hs g = is_some (find (λ (h : OpenHandle Progress). eqb h.number g.number) hs) ≡ true

module _ (conn : ℕ) where
  abbrev AreLeft : List (OpenHandle Progress) → Content → Type 0
  AreLeft hs c = AllByRecursion (λ (g : OpenHandle Progress). eqb g.connection conn ≡ true → IsLeft hs g) c.handles

  -- moves that leave who is left
  abbrev IsLoose : Move → Type 0
  IsLoose x = (hs : List (OpenHandle Progress)) (c : Content) → AreLeft hs c → AreLeft hs (apply_seen x c)

  loose-after : (xs : List Move) → AllByRecursion IsLoose xs → (hs : List (OpenHandle Progress)) (c : Content) → AreLeft hs c → AreLeft hs (apply_all_seen xs c)
  loose-after [] loose hs c all = all
  loose-after (x ∷ xs) loose hs c all = loose-after xs loose.1 hs (apply_seen x c) (loose.0 hs c all)

  loose-target : (c : Content) (h : OpenHandle Progress) (kind : Kind) (writer : Option ℕ) → AllByRecursion IsLoose (on_target c h kind writer)
  loose-target c h kind writer = all-or IsLoose _ (λ o. ((λ hs d all. all-offered (λ (g : OpenHandle Progress). eqb g.connection conn ≡ true → IsLeft hs g) (entry_of o.object kind writer) (λ g q. q) d.handles all), tt)) (object_numbered c h.target)

  loose-parting : (c : Content) (h : OpenHandle Progress) (k : HandleKind) → AllByRecursion IsLoose (parting c h k)
  loose-parting c h ServerHandle = loose-target c h _ None
  loose-parting c h ClientHandle = loose-target c h _ None
  loose-parting c h NamesHandle = tt
  loose-parting c h (ObjectHandle delta) = all-cond IsLoose (h.options.critical && h.writes) _ [] (loose-target c h Dropped None) tt
  loose-parting c h (DirectoryHandle delta) = tt

  left-closes : (h : OpenHandle Progress) (hs : List (OpenHandle Progress)) (c : Content) → Order c → AreLeft (h ∷ hs) c → AreLeft hs (apply_seen (Closes h.number) c)
  left-closes h hs c r all = all-imp (λ (g : OpenHandle Progress). (eqb g.number h.number ≡ false) × (eqb g.connection conn ≡ true → IsLeft (h ∷ hs) g)) (λ (g : OpenHandle Progress). eqb g.connection conn ≡ true → IsLeft hs g) one
      (apply_seen (Closes h.number) c).handles
      (all-both _ _ (apply_seen (Closes h.number) c).handles (none-left (λ (g : OpenHandle Progress). g.number) h.number 0 c.next_handle c.handles r.0) (all-without_first (λ (g : OpenHandle Progress). eqb g.connection conn ≡ true → IsLeft (h ∷ hs) g) (λ g. eqb g.number h.number) c.handles all))
    where
      one : (g : OpenHandle Progress) → (eqb g.number h.number ≡ false) × (eqb g.connection conn ≡ true → IsLeft (h ∷ hs) g) → eqb g.connection conn ≡ true → IsLeft hs g
      one g p own = go (eqb h.number g.number) refl (p.1 own)
        where
          go : (b : Bool) → eqb h.number g.number ≡ b → is_some (cond b (Some h) (find (λ (h : OpenHandle Progress). eqb h.number g.number) hs)) ≡ true → IsLeft hs g
          go true e q = absurd (let yes : eqb g.number h.number ≡ true = eq-eqb g.number h.number (sym (eqb-true h.number g.number e)) in let no = p.0 in cc)
          go false e q = q

  left-closing : (h : OpenHandle Progress) (hs : List (OpenHandle Progress)) (c : Content) → Order c → AreLeft (h ∷ hs) c → AreLeft hs (apply_all_seen (closing c h) c)
  left-closing h hs c r all = loose-after ((cond (is_some h.parked) (Queues h.connection (ReadDone h.number (Err BadHandle)) ∷ []) []) ++ parting c h h.kind)
      (all-append IsLoose _ (parting c h h.kind) (all-cond IsLoose (is_some h.parked) (Queues h.connection (ReadDone h.number (Err BadHandle)) ∷ []) [] ((λ hs d p. p), tt) tt) (loose-parting c h h.kind))
      hs (apply_seen (Closes h.number) c) (left-closes h hs c r all)

  left-closings : (hs : List (OpenHandle Progress)) (c : Content) → Basis c → AreLeft hs c → AreLeft [] (apply_all_seen (closings c hs) c)
  left-closings [] c b all = all
  left-closings (h ∷ hs) c b all =
      let next = apply_all_seen (closing c h) c in
      subst (AreLeft []) (sym (moves-append (closing c h) (closings next hs) c))
      (left-closings hs next (basis-after (closing c h) c b (safe-fit (closing c h) c (closing-safe c h))) (left-closing h hs c b.order all))

  own-left : (hs : List (OpenHandle Progress)) → AllByRecursion (λ (g : OpenHandle Progress). eqb g.connection conn ≡ true → IsLeft (filter (λ (h : OpenHandle Progress). eqb h.connection conn) hs) g) hs
  own-left [] = tt
  own-left (h ∷ hs) = (first, all-imp (λ (g : OpenHandle Progress). eqb g.connection conn ≡ true → IsLeft (filter (λ (h : OpenHandle Progress). eqb h.connection conn) hs) g) (λ (g : OpenHandle Progress). eqb g.connection conn ≡ true → IsLeft (filter (λ (h : OpenHandle Progress). eqb h.connection conn) (h ∷ hs)) g) (λ g p own. more g (p own) (eqb h.connection conn)) hs (own-left hs))
    where
      first : eqb h.connection conn ≡ true → IsLeft (cond (eqb h.connection conn) (h ∷ filter (λ (h : OpenHandle Progress). eqb h.connection conn) hs) (filter (λ (h : OpenHandle Progress). eqb h.connection conn) hs)) h
      first own = rw own (ap (λ b. is_some (cond b (Some h) (find (λ (g : OpenHandle Progress). eqb g.number h.number) (filter (λ (h : OpenHandle Progress). eqb h.connection conn) hs)))) (eq-eqb h.number h.number refl))

      more : (g : OpenHandle Progress) → IsLeft (filter (λ (h : OpenHandle Progress). eqb h.connection conn) hs) g → (b : Bool) → IsLeft (cond b (h ∷ filter (λ (h : OpenHandle Progress). eqb h.connection conn) hs) (filter (λ (h : OpenHandle Progress). eqb h.connection conn) hs)) g
      more g p true = by (eqb h.number g.number)
        where
          by : (b : Bool) → is_some (cond b (Some h) (find (λ (h : OpenHandle Progress). eqb h.number g.number) (filter (λ (h : OpenHandle Progress). eqb h.connection conn) hs))) ≡ true
          by true = refl
          by false = p
      more g p false = p

  leaving-fit : (c : Content) → Basis c → AreFit c (closings c (handles_of c conn) ++ Leaves conn ∷ [])
  leaving-fit c b = fit-append (closings c (handles_of c conn)) (Leaves conn ∷ []) c (safe-fit (closings c (handles_of c conn)) c (closings-safe c (handles_of c conn)))
      (all-imp (λ (g : OpenHandle Progress). eqb g.connection conn ≡ true → IsLeft [] g) (λ (g : OpenHandle Progress). eqb g.connection conn ≡ false) (λ g p. by g (eqb g.connection conn) refl p) _ (left-closings (handles_of c conn) c b (own-left c.handles)), tt)
    where
      by : (g : OpenHandle Progress) (k : Bool) → eqb g.connection conn ≡ k → (eqb g.connection conn ≡ true → false ≡ true) → k ≡ false
      by g true e p = absurd (let h = p e in cc)
      by g false e p = refl

-- ---- each event

attach-fit : (c : Content) (conn : ℕ) → first_refusal (attach_checks c conn) ≡ None → Fits c (Attaches conn)
attach-fit c conn p =
    let tests = all-pass (attach_checks c conn) p in
    let within = and-both (nat_le 1 conn) (nat_le conn 1024) (not-false (nat_le 1 conn && nat_le conn 1024) tests.0) in
    (grind (arith, nat_tests, within.0), grind (arith, nat_tests, within.1), tests.1.0)

pub effect-fit : (c : Content) (conn : ℕ) (request : Request) → Basis c → first_refusal (checks c conn request) ≡ None → AreFit c (effect c conn request).1
unfolding checks effect
effect-fit c conn Attach b p = (attach-fit c conn p, tt)
effect-fit c conn Detach b p = leaving-fit conn c b
effect-fit c conn (OpenRequest mode text) b p = go (open_text text) rest.1
  where
    first : (not (is_attached c conn) ≡ false) × (first_refusal (Refuse (not (letters_fit mode)) Refusal.BadMode ∷ Memory ∷ parsed (open_text text) (open_checks c mode)) ≡ None)
    first = behind (not (is_attached c conn)) Refusal.NotAttached (Refuse (not (letters_fit mode)) Refusal.BadMode ∷ Memory ∷ parsed (open_text text) (open_checks c mode)) p

    rest : (not (letters_fit mode) ≡ false) × (first_refusal (parsed (open_text text) (open_checks c mode)) ≡ None)
    rest = behind (not (letters_fit mode)) Refusal.BadMode (Memory ∷ parsed (open_text text) (open_checks c mode)) first.1

    go : (r : Result OpenSpec Refusal) → first_refusal (parsed r (open_checks c mode)) ≡ None → AreFit c (with_result r (λ spec. (OpenedHandle c.next_handle, opening c conn mode spec (found_object c spec)))).1
    go (Err r) q = tt
    go (Ok spec) q = opening-fit c b conn (not-false (is_attached c conn) first.0) mode spec q
effect-fit c conn (Read handle size) b p = safe-fit _ c (safe-outcome _ (λ h. read_effect-safe h size (read_answer c h size)) (own_handle c conn handle))
effect-fit c conn (Write handle bytes) b p = safe-fit _ c (safe-outcome _ (λ h. safe-result _ (λ text. writing-safe c h text) (write_text bytes)) (own_handle c conn handle))
effect-fit c conn (Close handle) b p = safe-fit _ c (safe-outcome _ (λ h. closing-safe c h) (own_handle c conn handle))
effect-fit c conn (Unlink path) b p = fit-path c path (λ names. (Done, unlinking (object_at c names) (directory_at c names))) (unlink_checks c) (unlink-fit c) (behind (not (is_attached c conn)) Refusal.NotAttached (Memory ∷ on_path path (unlink_checks c)) p).1
effect-fit c conn (Mkdir path) b p = fit-path c path (λ names. (Done, MakesDirectory names ∷ [])) (mkdir_checks c) (λ names q. (mkdir-fit c b.tree names q, tt)) (behind (not (is_attached c conn)) Refusal.NotAttached (Memory ∷ on_path path (mkdir_checks c)) p).1
effect-fit c conn (ListRequest path) b p = safe-fit _ c (safe-outcome _ (λ names. tt) (path_text path))
effect-fit c conn (Notify handle action code value) b p = safe-fit _ c (safe-outcome _ (λ h. ((λ c. tt), tt)) (own_handle c conn handle))
effect-fit c conn Receive b p = safe-fit _ c (received-safe conn (first_of (queue_of c conn)))

pub step-basis : (c : Content) (e : Event) → Basis c → Basis (step_seen c e).1
unfolding step_seen plan
step-basis c e b = by (first_refusal (all_checks_of c e)) refl
  where
    by : (r : Option Refusal) → first_refusal (all_checks_of c e) ≡ r → Basis (apply_all_seen (decided c (effect c e.conn e.request) r).1 c)
    by (Some r) is = b
    by None is =
        let done = (effect c e.conn e.request).1 in
        let d = apply_all_seen done c in
        let passes = passes-both (checks c e.conn e.request) (Refuse (passes_last_number d) Refusal.TableFull ∷ []) is in
        basis-after (done ++ settling c d) c b (fit-append done (settling c d) c (effect-fit c e.conn e.request b passes.0) (safe-fit (settling c d) d (settling-safe c d)))
