-- What is opened, made and removed at a path is fit.
use Rattle.std.proofs.Common.{arith, ap, sym, ◌∙◌}
use Rattle.std.specs.Prelude.{◌≡◌, ◌≤◌, ◌<◌, ℕ, ◌+◌, List, [], ◌∷◌, ◌++◌, ◌==◌, ◌&&◌, ◌||◌, not, Bool, true, false, cond, nat_lt, nat_le, Option, Some, None, is_some, is_none, option_map, unwrap_or, ok_or, Result, Ok, Err, find, filter, length, refl}
use Rattle.std.proofs.lemmas.Bool.{eqb-true, eq-eqb}
use Rattle.std.proofs.lemmas.Bool.Decides.{nat_tests}
use Rattle.std.specs.Option.{option_map_or, option_or}
use Rattle.std.specs.declared.cmp.Ordering.{Ordering}
use Rattle.std.specs.Ordering.{is_lt}
use Rattle.std.specs.List.{filter_map, cons_option}
use Rattle.pps_types.specs.declared.found.Found.{Found}
use Rattle.pps_types.specs.declared.found.Found.TheVariants.{Object as FoundObject, Directory as FoundDirectory}
use Rattle.pps_types.specs.declared.refusal.Refusal.{Refusal}
use Rattle.pps_types.specs.declared.event.Mode.{Mode}
use Rattle.pps_types.specs.declared.outcome.Outcome.{Outcome}
use Rattle.pps_types.specs.declared.handle_kind.HandleKind.TheVariants.{Object as ObjectHandle, Directory as DirectoryHandle, Names as NamesHandle, Server as ServerHandle, Client as ClientHandle}
use Rattle.pps_types.specs.declared.record.Kind.TheVariants.{Truncated, Deleted, Opened}
use Rattle.pps_types.specs.Bytes.{same}
use Rattle.pps_types.specs.Names.{Path, parent, last_name, place, is_directory, sorted_by, insert_by, name_cmp, new_refusal}
use Rattle.pps_types.specs.OpenText.{path_text, OpenSpec, open_text}
use Rattle.pps_types.specs.History.{Entry}
use Rattle.pps_types.specs.Reading.{is_directory_kind}
use Rattle.pps_types.specs.Content.{Directory, LiveObject, Content, directory_at, parent_number, object_in, object_at, at, members, subdirectories}
use Rattle.pps_types.specs.Checks.{Refuse, first_refusal, refused, parsed, mode_fits, handle_checks, found_as, all_checks, is_used, object_checks, name_checks, open_checks, on_path, mkdir_checks}
use Rattle.pps_types.specs.Plan.{Move, Creates, AppendsRecord, Opens, MakesDirectory, apply_all_seen, entry_of, touched, new_object, preparing, kind_opened, new_handle, opening, found_object, unlinking, with_path, with_result}
use Rattle.service_laws.specs.Bounds.{crowd, IsBound}
use Rattle.pps_types.specs.WellFormed.{AreTree}
use Rattle.service_laws.proofs.Finds.{OfSome, and-both}
use Rattle.service_laws.proofs.Trees.{same_path-is}
use Rattle.service_laws.proofs.Passes.{AllPass, all-pass, none-fails, passes-both, or-false, IsDirectoryFound, place-parent, place-at, object-found}
use Rattle.service_laws.specs.Fit.{IsFit, AreFit}
use Rattle.service_laws.proofs.BoundedMoves.{crowd-touched, touched-directory}
use Rattle.service_laws.proofs.BoundedTexts.{OfOk}
use Rattle.service_laws.proofs.BoundedEffects.{fit-append, shrink, found-fit}
use Rattle.service_laws.proofs.BoundedPaths.{HasShortEnd, short-path, short-open_text}

eqb-refl : (n : ℕ) → (n == n) ≡ true
eqb-refl n = eq-eqb n n refl

-- ---- ways

-- a directory that is found is one of the directories
at-directory : (c : Content) (path : Path) → IsDirectoryFound (at c path) → (d : Directory) × (directory_at c path ≡ Some d)
at-directory c path is = go (directory_at c path) refl (object_at c path) is
  where
    go : (d : Option Directory) → directory_at c path ≡ d → (o : Option LiveObject) → IsDirectoryFound (option_or (option_map (λ (d : Directory). FoundDirectory d.number) d) (option_map (λ (o : LiveObject). FoundObject o.object.number) o)) → (d : Directory) × (directory_at c path ≡ Some d)
    go None e None is = absurd is
    go None e (Some o) is = absurd is
    go (Some d) e o is = (d, e)

-- ---- crowds

insert-length : {X K : Type 0} (cmp : K → K → Ordering) (key : X → K) (x : X) (xs : List X) → length (insert_by cmp key x xs) ≡ length xs + 1
insert-length cmp key x [] = refl
insert-length cmp key x (y ∷ ys) = elim (is_lt (cmp (key x) (key y))) as (λ b. length (cond b (x ∷ y ∷ ys) (y ∷ insert_by cmp key x ys)) ≡ length (y ∷ ys) + 1) [ true ↦ omega arith | false ↦ omega (arith, insert-length cmp key x ys) ]

pub sorted-length : {X K : Type 0} (cmp : K → K → Ordering) (key : X → K) (xs : List X) → length (sorted_by cmp key xs) ≡ length xs
sorted-length cmp key [] = refl
sorted-length cmp key (x ∷ xs) = let more = insert-length cmp key x (sorted_by cmp key xs) in let rest = sorted-length cmp key xs in omega (arith, more, rest)

pub members-crowd : (c : Content) (directory : ℕ) → length (members c directory) ≡ crowd c.objects directory
members-crowd c directory = sorted-length name_cmp (λ (o : LiveObject). o.object.name) (filter (λ o. o.object.directory == directory) c.objects)

one-more : {X : Type 0} (p : X) (a b : Bool) → a ≡ b → (ys : List X) → length (cond a (p ∷ ys) ys) ≤ cond b 1 0 + length ys
one-more p true true e ys = omega arith
one-more p false false e ys = omega arith
one-more p true false e ys = absurd (let h = e in cc)
one-more p false true e ys = absurd (let h = e in cc)

-- an object deleted makes its directory's crowd smaller
crowd-deleted : (o : LiveObject) (test : LiveObject → Bool) (directory : ℕ) → ((p : LiveObject) → test p ≡ true → p.object.directory ≡ directory) → (os : List LiveObject) → find test os ≡ Some o
    → crowd (filter_map (touched (entry_of o.object Deleted None)) os) directory < crowd os directory
crowd-deleted o test directory lies [] e = absurd (let h = e in cc)
crowd-deleted o test directory lies (x ∷ xs) e = go (test x) refl e (crowd-deleted o test directory lies xs)
  where
    e0 : Entry
    e0 = entry_of o.object Deleted None

    gone : x ≡ o → touched e0 x ≡ None
    gone is = ap (touched e0) is ∙ ap (λ b. cond b None (Some o)) (eqb-refl o.object.number)

    counts : (t : Option LiveObject) → OfSome (λ p. p.object.directory ≡ x.object.directory) t → (ys : List LiveObject) → crowd (cons_option t ys) directory ≤ cond (x.object.directory == directory) 1 0 + crowd ys directory
    counts None k ys = omega arith
    counts (Some p) k ys = one-more p (p.object.directory == directory) (x.object.directory == directory) (ap (λ n. n == directory) k) (filter (λ (o : LiveObject). o.object.directory == directory) ys)

    whole : crowd (x ∷ xs) directory ≡ cond (x.object.directory == directory) 1 0 + crowd xs directory
    whole = elim (x.object.directory == directory) as (λ b. length (cond b (x ∷ filter (λ (o : LiveObject). o.object.directory == directory) xs) (filter (λ (o : LiveObject). o.object.directory == directory) xs)) ≡ cond b 1 0 + crowd xs directory) [ true ↦ omega arith | false ↦ omega arith ]

    go : (b : Bool) → test x ≡ b → cond b (Some x) (find test xs) ≡ Some o → (find test xs ≡ Some o → crowd (filter_map (touched e0) xs) directory < crowd xs directory) → crowd (filter_map (touched e0) (x ∷ xs)) directory < crowd (x ∷ xs) directory
    go true t found rest =
        let is : x ≡ o = cc in let le = crowd-touched e0 directory xs in
        rw (gone is, whole) (rw (lies x t, eqb-refl directory) (omega (arith, le)))
    go false t found rest = let lt = rest found in let le = counts (touched e0 x) (touched-directory e0 x) (filter_map (touched e0) xs) in rw whole (omega (arith, lt, le))

-- ---- Unlink and Mkdir

deleted-fit : (c : Content) (o : LiveObject) (test : LiveObject → Bool) → IsBound c → find test c.objects ≡ Some o → IsFit c (AppendsRecord (entry_of o.object Deleted None))
deleted-fit c o test b e = found-fit c o test Deleted None b e (omega arith) (omega arith) (shrink Deleted (λ attributes. omega arith) c b o.object.number)

unlinking-fit : (c : Content) (names : Path) → IsBound c → AreFit c (unlinking (object_at c names) (directory_at c names))
unlinking-fit c names b = go (object_at c names) refl (directory_at c names)
  where
    go : (o : Option LiveObject) → object_at c names ≡ o → (d : Option Directory) → AreFit c (unlinking o d)
    go (Some o) e d = let found = object-found c names o e in (deleted-fit c o (λ o. (o.object.directory == found.0) && same o.object.name (last_name names)) b found.2, tt)
    go None e (Some d) = (tt, tt)
    go None e None = tt

pub unlink-fit : (c : Content) (text : List ℕ) → IsBound c → AreFit c (with_path text (λ names. (Outcome.Done, unlinking (object_at c names) (directory_at c names)))).1
unlink-fit c text b = go (path_text text)
  where
    go : (o : Option Path) → AreFit c (option_map_or {U = Outcome × List Move} (λ names. (Outcome.Done, unlinking (object_at c names) (directory_at c names))) o (Outcome.Done, [])).1
    go None = tt
    go (Some names) = unlinking-fit c names b

pub mkdir-fit : (c : Content) (text : List ℕ) → IsBound c → first_refusal (on_path text (mkdir_checks c)) ≡ None
    → AreFit c (with_path text (λ names. (Outcome.Done, MakesDirectory names ∷ []))).1
mkdir-fit c text b p = go (path_text text) (short-path text) p
  where
    made : (names : Path) → HasShortEnd names → nat_le 256 (length (subdirectories c (parent names))) ≡ false → IsFit c (MakesDirectory names)
    made names short room = (short, (λ q same. rw (sym (same_path-is (parent names) q same)) (grind (arith, nat_tests, room))))

    go : (o : Option Path) → OfSome HasShortEnd o → first_refusal (parsed (ok_or o Refusal.BadPath) (mkdir_checks c)) ≡ None → AreFit c (option_map_or {U = Outcome × List Move} (λ names. (Outcome.Done, MakesDirectory names ∷ [])) o (Outcome.Done, [])).1
    go None short p = tt
    go (Some names) short p =
        let behind = passes-both (refused (new_refusal (at c) names)) (Refuse (nat_le 256 (length (subdirectories c (parent names)))) Refusal.TableFull ∷ Refuse (nat_lt 65535 (length c.directories)) Refusal.TableFull ∷ []) p in
        (made names short (all-pass (Refuse (nat_le 256 (length (subdirectories c (parent names)))) Refusal.TableFull ∷ Refuse (nat_lt 65535 (length c.directories)) Refusal.TableFull ∷ []) behind.1).0, tt)

-- ---- Open

-- the handle that an open makes
module _ (c : Content) (conn : ℕ) (mode : Mode) (spec : OpenSpec) (b : IsBound c) (short : HasShortEnd spec.names) (fits : mode_fits mode spec ≡ true) (room : first_refusal (handle_checks c) ≡ None) where
  handles-end : c.next_handle < 4294967296
  handles-end = let tests = all-pass (handle_checks c) room in let last = or-false (nat_le 65535 (length c.handles)) (nat_lt 4294967295 c.next_handle) tests.0 in grind (arith, nat_tests, last.1)

  name-short : length (cond spec.all [] (last_name spec.names)) ≤ 255
  name-short = elim spec.all as (λ a. length (cond a [] (last_name spec.names)) ≤ 255) [ true ↦ omega arith | false ↦ short ]

  listens : (found : Option LiveObject) → is_directory_kind (kind_opened spec found) ≡ true → mode.w ≡ false
  listens found = go spec.options.server spec.all mode.w mode.c mode.t (mode.r && mode.w) spec.options.deltadir (option_map_or (λ o. is_some o.object.server) found false) fits
    where
      go : (server all w x t rw deltadir client : Bool) → (not (all && (w || x || t)) && not (server && not rw)) ≡ true
          → is_directory_kind (cond server ServerHandle (cond all (cond deltadir NamesHandle (DirectoryHandle spec.options.delta)) (cond client ClientHandle (ObjectHandle spec.options.delta)))) ≡ true → w ≡ false
      go true all w x t rw deltadir client f k = absurd (let h = k in cc)
      go false true true x t rw deltadir client f k = absurd (let h = f in cc)
      go false true false x t rw deltadir client f k = refl
      go false false w x t rw deltadir true f k = absurd (let h = k in cc)
      go false false w x t rw deltadir false f k = absurd (let h = k in cc)

  opens-fit : (found : Option LiveObject) (d : Content) → d.next_handle ≡ c.next_handle → IsFit d (Opens (new_handle c conn mode spec found))
  opens-fit found d same = (rw same handles-end, name-short, refl, listens found)

abbrev OpenFits : Content → ℕ → Mode → OpenSpec → Type 0
OpenFits c conn mode spec = AreFit c (opening c conn mode spec (found_object c spec))

-- a new object's directory has room, where nothing stands at the path
new-room : (c : Content) (spec : OpenSpec) → AreTree c → place (at c) spec.names ≡ Ok None → first_refusal (object_checks c spec.names) ≡ None → crowd c.objects (unwrap_or (parent_number c spec.names) 0) < 256
new-room c spec tree placed room = go spec.names placed room
  where
    go : (names : Path) → place (at c) names ≡ Ok None → first_refusal (object_checks c names) ≡ None → crowd c.objects (unwrap_or (parent_number c names) 0) < 256
    go [] placed room = absurd (let none : at c [] ≡ None = place-at (at c) [] None placed in
        let some : at c [] ≡ Some (FoundDirectory 0) = ap (λ d. option_or (option_map (λ (d : Directory). FoundDirectory d.number) d) None) tree.root in let no = sym none ∙ some in cc)
    go (n ∷ ns) placed room =
        let above = at-directory c (parent (n ∷ ns)) (place-parent (at c) n ns None placed) in
        let number : parent_number c (n ∷ ns) ≡ Some above.0.number = ap (option_map (λ (d : Directory). d.number)) above.1 in
        let tests = all-pass (object_checks c (n ∷ ns)) room in
        let beside : nat_le 256 (option_map_or (λ d. length (members c d)) (parent_number c (n ∷ ns)) 0) ≡ false = tests.0 in
        let counted : nat_le 256 (length (members c above.0.number)) ≡ false = rw number at beside in
        let same = members-crowd c above.0.number in
        rw number (grind (arith, nat_tests, counted, same))

-- preparing makes no handle
kept-next : (c : Content) (mode : Mode) (spec : OpenSpec) (found : Option LiveObject) → (apply_all_seen (preparing c mode spec found) c).next_handle ≡ c.next_handle
kept-next c mode spec None = elim spec.all as (λ a. (apply_all_seen (cond a [] (Creates (new_object c spec) ∷ [])) c).next_handle ≡ c.next_handle) [ true ↦ refl | false ↦ refl ]
kept-next c mode spec (Some o) = go spec.options.server (is_some o.object.server) mode.t
  where
    go : (a b t : Bool) → (apply_all_seen (cond a (AppendsRecord (entry_of o.object Deleted None) ∷ Creates (new_object c spec) ∷ []) (cond b (AppendsRecord (entry_of o.object (Opened c.next_handle) None) ∷ []) (cond t (AppendsRecord (entry_of o.object Truncated None) ∷ []) []))) c).next_handle ≡ c.next_handle
    go true b t = refl
    go false true t = refl
    go false false true = refl
    go false false false = refl

prepared-fit : (c : Content) (conn : ℕ) (mode : Mode) (spec : OpenSpec) → IsBound c → HasShortEnd spec.names → mode_fits mode spec ≡ true → first_refusal (handle_checks c) ≡ None
    → (found : Option LiveObject) → AreFit c (preparing c mode spec found) → AreFit c (opening c conn mode spec found)
prepared-fit c conn mode spec b short fits room found f =
    fit-append (preparing c mode spec found) (Opens (new_handle c conn mode spec found) ∷ []) c f (opens-fit c conn mode spec b short fits room found (apply_all_seen (preparing c mode spec found) c) (kept-next c mode spec found), tt)

-- an object at the path
found-prepared : (c : Content) (mode : Mode) (spec : OpenSpec) (o : LiveObject) → IsBound c → HasShortEnd spec.names → c.next_handle < 4294967296 → object_at c spec.names ≡ Some o → AreFit c (preparing c mode spec (Some o))
found-prepared c mode spec o b short ends e = go spec.options.server (is_some o.object.server) mode.t
  where
    there : (d : ℕ) × (parent_number c spec.names ≡ Some d) × (object_in c (last_name spec.names) d ≡ Some o)
    there = object-found c spec.names o e

    test : LiveObject → Bool
    test p = (p.object.directory == there.0) && same p.object.name (last_name spec.names)

    lies : (p : LiveObject) → test p ≡ true → p.object.directory ≡ there.0
    lies p t = eqb-true p.object.directory there.0 (and-both (p.object.directory == there.0) (same p.object.name (last_name spec.names)) t).0

    fewer : crowd (filter_map (touched (entry_of o.object Deleted None)) c.objects) (unwrap_or (parent_number c spec.names) 0) < 256
    fewer = rw there.1 (let less = crowd-deleted o test there.0 lies c.objects there.2 in omega (arith, less, b.crowds there.0))

    go : (s k t : Bool) → AreFit c (cond s (AppendsRecord (entry_of o.object Deleted None) ∷ Creates (new_object c spec) ∷ []) (cond k (AppendsRecord (entry_of o.object (Opened c.next_handle) None) ∷ []) (cond t (AppendsRecord (entry_of o.object Truncated None) ∷ []) [])))
    go true k t = (deleted-fit c o test b there.2, ((short, fewer), tt))
    go false true t = (found-fit c o test (Opened c.next_handle) None b there.2 (omega arith) (omega (arith, ends)) (shrink (Opened c.next_handle) (λ attributes. omega arith) c b o.object.number), tt)
    go false false true = (found-fit c o test Truncated None b there.2 (omega arith) (omega arith) (shrink Truncated (λ attributes. omega arith) c b o.object.number), tt)
    go false false false = tt

-- nothing at the path
none-prepared : (c : Content) (mode : Mode) (spec : OpenSpec) (found : Option Found) → AreTree c → HasShortEnd spec.names → object_at c spec.names ≡ None → place (at c) spec.names ≡ Ok found → first_refusal (name_checks c mode spec found) ≡ None
    → AreFit c (preparing c mode spec None)
none-prepared c mode spec found tree short none placed p = elim spec.all as (λ a. AreFit c (cond a [] (Creates (new_object c spec) ∷ []))) [ true ↦ tt | false ↦ ((short, room found placed p), tt) ]
  where
    room : (found : Option Found) → place (at c) spec.names ≡ Ok found → first_refusal (name_checks c mode spec found) ≡ None → crowd c.objects (unwrap_or (parent_number c spec.names) 0) < 256
    room None placed p =
        let behind = passes-both (Refuse (true && not mode.c) Refusal.NotFound ∷ Refuse false Refusal.IsDirectory ∷ Refuse (spec.options.server && false) Refusal.Busy ∷ []) (handle_checks c ++ object_checks c spec.names) p in
        new-room c spec tree placed (passes-both (handle_checks c) (object_checks c spec.names) behind.1).1
    room (Some (FoundDirectory number)) placed p = absurd (let h = (all-pass (name_checks c mode spec (Some (FoundDirectory number))) p).1.0 in cc)
    room (Some (FoundObject number)) placed p = absurd (is-none (directory_at c spec.names) (object_at c spec.names) none (place-at (at c) spec.names (Some (FoundObject number)) placed))
      where
        is-none : (d : Option Directory) (o : Option LiveObject) → o ≡ None → option_or (option_map (λ (d : Directory). FoundDirectory d.number) d) (option_map (λ (o : LiveObject). FoundObject o.object.number) o) ≡ Some (FoundObject number) → ⊥
        is-none None None e f = absurd (let h = f in cc)
        is-none None (Some o) e f = absurd (let h = e in cc)
        is-none (Some d) o e f = absurd (let h = f in cc)

opening-fit : (c : Content) (conn : ℕ) (mode : Mode) (spec : OpenSpec) → AreTree c → IsBound c → HasShortEnd spec.names → first_refusal (open_checks c mode spec) ≡ None → AreFit c (opening c conn mode spec (found_object c spec))
opening-fit c conn mode spec tree b short p = placed (place (at c) spec.names) refl tests.1
  where
    tests : (not (mode_fits mode spec) ≡ false) × AllPass (parsed (place (at c) spec.names) (λ found. cond spec.all (all_checks c found) (name_checks c mode spec found)))
    tests = all-pass (open_checks c mode spec) p

    fits : mode_fits mode spec ≡ true
    fits = elim (mode_fits mode spec) as (λ f. not f ≡ false → f ≡ true) [ true ↦ (λ h. refl) | false ↦ (λ h. absurd (let g = h in cc)) ] tests.0

    by : (all : Bool) → spec.all ≡ all → (found : Option Found) → place (at c) spec.names ≡ Ok found → AllPass (cond all (all_checks c found) (name_checks c mode spec found)) → AreFit c (opening c conn mode spec (cond all None (object_at c spec.names)))
    by true e found there pass =
        let behind = none-fails (handle_checks c) pass.1.1 in
        prepared-fit c conn mode spec b short fits behind None (rw e tt)
    by false e found there pass =
        let none = none-fails (name_checks c mode spec found) pass in
        let behind = passes-both (Refuse (is_none found && not mode.c) Refusal.NotFound ∷ Refuse (found_as is_directory found) Refusal.IsDirectory ∷ Refuse (spec.options.server && found_as (is_used c) found) Refusal.Busy ∷ []) (handle_checks c ++ cond (is_none found) (object_checks c spec.names) []) none in
        let handles = passes-both (handle_checks c) (cond (is_none found) (object_checks c spec.names) []) behind.1 in
        prepared-fit c conn mode spec b short fits handles.0 (object_at c spec.names) (stands (object_at c spec.names) refl (handles-end c conn mode spec b short fits handles.0) none)
      where
        stands : (o : Option LiveObject) → object_at c spec.names ≡ o → c.next_handle < 4294967296 → first_refusal (name_checks c mode spec found) ≡ None → AreFit c (preparing c mode spec o)
        stands None f ends none = none-prepared c mode spec found tree short f there none
        stands (Some o) f ends none = found-prepared c mode spec o b short ends f

    placed : (r : Result (Option Found) Refusal) → place (at c) spec.names ≡ r → AllPass (parsed r (λ found. cond spec.all (all_checks c found) (name_checks c mode spec found))) → AreFit c (opening c conn mode spec (found_object c spec))
    placed (Err r) e pass = absurd (let h = pass.0 in cc)
    placed (Ok found) e pass = by spec.all refl found e pass

pub open-fit : (c : Content) (conn : ℕ) (mode : Mode) (text : List ℕ) → AreTree c → IsBound c → first_refusal (parsed (open_text text) (open_checks c mode)) ≡ None
    → AreFit c (with_result (open_text text) (λ spec. (Outcome.Opened c.next_handle, opening c conn mode spec (found_object c spec)))).1
open-fit c conn mode text tree b p = go (open_text text) (short-open_text text) p
  where
    go : (r : Result OpenSpec Refusal) → OfOk (λ (spec : OpenSpec). HasShortEnd spec.names) r → first_refusal (parsed r (open_checks c mode)) ≡ None → AreFit c (with_result r (λ spec. (Outcome.Opened c.next_handle, opening c conn mode spec (found_object c spec)))).1
    go (Err r) short p = tt
    go (Ok spec) short p = opening-fit c conn mode spec tree b short p
