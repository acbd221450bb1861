-- Names agree with what stands once an object was deleted.
use Rattle.std.proofs.Common.{◌≡◌, ℕ, ◌+◌, Bool, true, false, cond, ◌&&◌, eqb, eqb-true, eq-eqb, List, [], ◌∷◌, ◌++◌, map, find, Option, Some, None, Ok, Err, refl, ap, sym, subst, ◌∙◌, arith}
use Rattle.std.specs.Prelude.{is_some, option_map, ok_or}
use Rattle.std.specs.Option.{option_or}
use Rattle.std.specs.List.{AllByRecursion, filter_map, cons_option}
use Rattle.std.specs.Ordering.{eq_by_cmp}
use Rattle.std.specs.FinMap.{get, remove, get-remove}
use Rattle.std.specs.Cmp.Lexicographic.{same_text}
use Rattle.pps_types.specs.declared.found.Found.{Found}
use Rattle.pps_types.specs.declared.found.Found.TheVariants.{Object as FoundObject, Directory as FoundDirectory}
use Rattle.pps_types.specs.declared.record.Kind.TheVariants.{Deleted}
use Rattle.pps_types.specs.declared.refusal.Refusal.{Refusal}
use Rattle.pps_types.specs.Bytes.{same, is_empty, ◌>>=◌}
use Rattle.pps_types.specs.Names.{Map, Path, path_cmp, same_path, parent, last_name, beyond, place, find_at, is_object, object_refusal, refusal_of}
use Rattle.pps_types.specs.Content.{Object, Directory, LiveObject, Content, at, parent_number, directory_at, object_at, object_in}
use Rattle.pps_types.specs.Plan.{AppendsRecord, apply_seen, touched}
use Rattle.pps_types.specs.WellFormed.{RiseBetween}
use Rattle.service_laws.proofs.Fits.{Order, Tree, order-in, tree-in, tree-out}
use Rattle.service_laws.proofs.Trees.{tree-kept, of_name, object-at, path-of, one-directory, above-of, object-touched, find-left, touched-of}
use Rattle.service_laws.proofs.Passes.{IsDirectoryFound, object-found}
use Rattle.service_laws.proofs.Rising.{rising-filter_map, one-number}
use Rattle.service_laws.proofs.Finds.{OfSome, and-both, all-imp, all-find, all-left, all-none, find-true}
use Rattle.alloc_tree.proofs.Orders.{paths_total}
use Rattle.number_table.specs.Numbered.{Entry, AllTell, has_number, value_under, without_first}
use Rattle.number_table.proofs.Told.{tell_without, find_told}
use Rattle.name_table.specs.Standing.{Placed, known_of, standing_by, content_of, bare_entry}
use Rattle.name_table.specs.Agrees.{IsNamed, HasPath}
use Rattle.name_table.proofs.Alone.{at_alone, tree_alone}
use Rattle.name_table.proofs.Places.{equal_paths, other_paths}
use Rattle.name_table.proofs.Happened.{flip, knowns, number_in, untouched}

-- ---- what stands is found on its way

-- what stands somewhere stands in a directory
abbrev pub IsClosed : (Path → Option Found) → Type 0
IsClosed at = (n : List ℕ) (ns : Path) → is_some (at (n ∷ ns)) ≡ true → IsDirectoryFound (at (parent (n ∷ ns)))

abbrev behind : (Path → Option Found) → List ℕ → Path → Option Found
behind at n p = at (n ∷ p)

some_directory : (o : Option Found) → IsDirectoryFound o → is_some o ≡ true
some_directory None d = absurd d
some_directory (Some (FoundObject number)) d = absurd d
some_directory (Some (FoundDirectory number)) d = refl

closed_behind : (at : Path → Option Found) → IsClosed at → (n : List ℕ) → IsClosed (behind at n)
closed_behind at closed n m ms some = closed n (m ∷ ms) some

top : (at : Path → Option Found) → IsClosed at → (p : Path) → is_some (at p) ≡ true → is_some (at []) ≡ true
top at closed [] some = some
top at closed (n ∷ ns) some = some_directory (at []) (closed n [] (top (behind at n) (closed_behind at closed n) ns some))

pub place_found : (at : Path → Option Found) → IsClosed at → (p : Path) → is_some (at p) ≡ true → place at p ≡ Ok (at p)
place_found at closed [] some = refl
place_found at closed (n ∷ ns) some =
    go (at []) (closed n [] (top (behind at n) (closed_behind at closed n) ns some)) (place_found (behind at n) (closed_behind at closed n) ns some)
  where
    go : (o : Option Found) → IsDirectoryFound o → place (behind at n) ns ≡ Ok (at (n ∷ ns)) → beyond o (place (behind at n) ns) ≡ Ok (at (n ∷ ns))
    go None d rest = absurd d
    go (Some (FoundObject number)) d rest = absurd d
    go (Some (FoundDirectory number)) d rest = rest

pub find_found : (at : Path → Option Found) → IsClosed at → (p : Path) (x : Found) → at p ≡ Some x → find_at at p ≡ Ok x
find_found at closed p x e = ap (λ r. r >>= (λ found. ok_or found Refusal.NotFound)) (place_found at closed p (ap is_some e) ∙ ap Ok e)

-- a directory that stands at a path is found as one
directory_found : (c : Content) (p : Path) → is_some (directory_at c p) ≡ true → IsDirectoryFound (at c p)
directory_found c p some = go (directory_at c p) some
  where
    go : (d : Option Directory) → is_some d ≡ true → IsDirectoryFound (option_or (option_map (λ (d : Directory). FoundDirectory d.number) d) (option_map (λ (o : LiveObject). FoundObject o.object.number) (object_at c p)))
    go None s = absurd (let h = s in cc)
    go (Some d) s = tt

pub at_closed : (c : Content) → Tree c → IsClosed (at c)
at_closed c t n ns some = directory_found c (parent (n ∷ ns)) (go (directory_at c (n ∷ ns)) refl (object_at c (n ∷ ns)) refl some)
  where
    go : (d : Option Directory) → directory_at c (n ∷ ns) ≡ d → (o : Option LiveObject) → object_at c (n ∷ ns) ≡ o
        → is_some (option_or (option_map (λ (d : Directory). FoundDirectory d.number) d) (option_map (λ (o : LiveObject). FoundObject o.object.number) o)) ≡ true
        → is_some (directory_at c (parent (n ∷ ns))) ≡ true
    go (Some d) e o f s =
        subst (λ p. is_some (directory_at c (parent p)) ≡ true) (path-of c (n ∷ ns) d e)
        (all-find (λ (d : Directory). is_some (directory_at c (parent d.path)) ≡ true) (λ (d : Directory). same_path d.path (n ∷ ns)) c.directories d t.1 e)
    go None e (Some o) f s =
        let a = object-found c (n ∷ ns) o f in
        ap is_some (above-of c (n ∷ ns) a.0 a.1).1
    go None e None f s = absurd (let h = s in cc)

-- ---- what stands at each path once an object is gone

pub path_whole : (n : List ℕ) (ns : Path) → parent (n ∷ ns) ++ last_name (n ∷ ns) ∷ [] ≡ n ∷ ns
path_whole n [] = refl
path_whole n (m ∷ ms) = ap (λ p. n ∷ p) (path_whole m ms)

one_above : (c : Content) → Order c → (p q : Path) (k : ℕ) → parent_number c p ≡ Some k → parent_number c q ≡ Some k → parent p ≡ parent q
one_above c r p q k e f =
    let a = above-of c p k e in
    let b = above-of c q k f in
    sym (path-of c (parent p) a.0 a.1) ∙ ap (λ (d : Directory). d.path) (sym (one-directory c r (λ d. same_path d.path (parent p)) (λ d. same_path d.path (parent q)) a.0 b.0 a.1 b.1 (b.2 ∙ sym a.2))) ∙ path-of c (parent q) b.0 b.1

-- an object stands at one path alone
pub one_path : (c : Content) → Order c → (p q : Path) (x : LiveObject) → object_at c p ≡ Some x → object_at c q ≡ Some x → p ≡ q
one_path c r [] q x e f = absurd (let h = e in cc)
one_path c r (n ∷ ns) [] x e f = absurd (let h = f in cc)
one_path c r (n ∷ ns) (m ∷ ms) x e f =
    let a = object-found c (n ∷ ns) x e in
    let b = object-found c (m ∷ ms) x f in
    let own = and-both (eqb x.object.directory a.0) (same x.object.name (last_name (n ∷ ns))) (find-true (of_name (last_name (n ∷ ns)) a.0) c.objects x a.2) in
    let other = and-both (eqb x.object.directory b.0) (same x.object.name (last_name (m ∷ ms))) (find-true (of_name (last_name (m ∷ ms)) b.0) c.objects x b.2) in
    let number : b.0 ≡ a.0 = sym (eqb-true x.object.directory b.0 other.0) ∙ eqb-true x.object.directory a.0 own.0 in
    let last : last_name (n ∷ ns) ≡ last_name (m ∷ ms) = sym (same_text x.object.name (last_name (n ∷ ns)) (sym own.1)) ∙ same_text x.object.name (last_name (m ∷ ms)) (sym other.1) in
    let above : parent (n ∷ ns) ≡ parent (m ∷ ms) = one_above c r (n ∷ ns) (m ∷ ms) a.0 a.1 (b.1 ∙ ap Some number) in
    sym (path_whole n ns) ∙ (λ i. above i ++ last i ∷ []) ∙ path_whole m ms

-- where an object stands no directory does
pub no_directory_at : (c : Content) → Tree c → (p : Path) (x : LiveObject) → object_at c p ≡ Some x → directory_at c p ≡ None
no_directory_at c t p x alive = go (directory_at c p) refl
  where
    go : (d : Option Directory) → directory_at c p ≡ d → d ≡ None
    go None e = refl
    go (Some d) e =
        let none : object_at c p ≡ None = subst (λ q. object_at c q ≡ None) (path-of c p d e) (all-find (λ (d : Directory). object_at c d.path ≡ None) (λ (d : Directory). same_path d.path p) c.directories d t.3 e) in
        absurd (let no = sym none ∙ alive in cc)

module _ (c : Content) (r : Order c) (t : Tree c) (n : ℕ) (x : LiveObject) (own : x.object.number ≡ n) (path : Path) (alive : object_at c path ≡ Some x) where
  abbrev gone : Content
  gone = apply_seen (AppendsRecord (bare_entry n Deleted)) c

  is_own : eqb n x.object.number ≡ true
  is_own = eq-eqb n x.object.number (sym own)

  -- none has its name in its directory
  gone_in : (name : List ℕ) (k : ℕ) → object_in c name k ≡ Some x → object_in gone name k ≡ None
  gone_in name k found = all-none (of_name name k) _ (all-left (λ (y : LiveObject). object_in c y.object.name y.object.directory ≡ Some y) (λ (y : LiveObject). of_name name k y ≡ false) (touched (bare_entry n Deleted)) one c.objects t.4)
    where
      one : (y : LiveObject) → object_in c y.object.name y.object.directory ≡ Some y → OfSome (λ (y : LiveObject). of_name name k y ≡ false) (touched (bare_entry n Deleted) y)
      one y named = go (eqb n y.object.number) refl
        where
          go : (b : Bool) → eqb n y.object.number ≡ b → OfSome (λ (y : LiveObject). of_name name k y ≡ false) (cond b None (Some y))
          go true e = tt
          go false e = by (of_name name k y) refl
            where
              by : (b : Bool) → of_name name k y ≡ b → b ≡ false
              by false f = refl
              by true f =
                  let both = and-both (eqb y.object.directory k) (same y.object.name name) f in
                  let named_so : y.object.name ≡ name = same_text y.object.name name (sym both.1) in
                  let lies : y.object.directory ≡ k = eqb-true y.object.directory k both.0 in
                  let is : Some x ≡ Some y = sym found ∙ (λ i. find (of_name (sym named_so i) (sym lies i)) c.objects) ∙ named in
                  let same_known : x ≡ y = cc in
                  let yes : eqb n y.object.number ≡ true = eq-eqb n y.object.number (sym own ∙ ap (λ (x : LiveObject). x.object.number) same_known) in
                  absurd (let no = sym yes ∙ e in cc)

  pub gone_at : (p : Path) → object_at c p ≡ Some x → object_at gone p ≡ None
  gone_at [] e = refl
  gone_at (m ∷ ms) e =
      let f = object-found c (m ∷ ms) x e in
      object-at gone m ms f.0 f.1 ∙ gone_in (last_name (m ∷ ms)) f.0 f.2

  -- others stay
  stays_at : (p : Path) (y : LiveObject) → object_at c p ≡ Some y → eqb n y.object.number ≡ false → object_at gone p ≡ Some y
  stays_at [] y e other = e
  stays_at (m ∷ ms) y e other =
      let f = object-found c (m ∷ ms) y e in
      object-at gone m ms f.0 f.1
      ∙ find-left (of_name (last_name (m ∷ ms)) f.0) (bare_entry n Deleted) y y (λ a b s. ap (λ (o : Object). eqb o.directory f.0 && same o.name (last_name (m ∷ ms))) s) (ap (λ b. cond b None (Some y)) other) c.objects f.2

  elsewhere : (p : Path) → (p ≡ path → ⊥) → object_at gone p ≡ object_at c p
  elsewhere p other = by (object_at c p) refl
    where
      by : (o : Option LiveObject) → object_at c p ≡ o → object_at gone p ≡ object_at c p
      by None e = object-touched c (bare_entry n Deleted) p e ∙ sym e
      by (Some y) e = go (eqb n y.object.number) refl
        where
          go : (b : Bool) → eqb n y.object.number ≡ b → object_at gone p ≡ object_at c p
          go false f = stays_at p y e f ∙ sym e
          go true f =
              let a = object-found c path x alive in
              let b = object-found c p y e in
              let is : y ≡ x = one-number (λ (o : LiveObject). o.object.number) (of_name (last_name path) a.0) (of_name (last_name p) b.0) 0 c.next_object c.objects r.1 x y a.2 b.2 (sym (eqb-true n y.object.number f) ∙ sym own) in
              absurd (other (one_path c r p path x (e ∙ ap Some is) alive))

  pub at_deleted : (p : Path) → at gone p ≡ cond (eq_by_cmp path_cmp p path) None (at c p)
  at_deleted p = by (eq_by_cmp path_cmp p path) refl
    where
      by : (b : Bool) → eq_by_cmp path_cmp p path ≡ b → at gone p ≡ cond b None (at c p)
      by true e =
          let is : p ≡ path = equal_paths p path e in
          (λ i. option_or (option_map (λ (d : Directory). FoundDirectory d.number) ((ap (directory_at c) is ∙ no_directory_at c t path x alive) i)) (option_map (λ (o : LiveObject). FoundObject o.object.number) ((ap (object_at gone) is ∙ gone_at path alive) i)))
      by false e = ap (λ o. option_or (option_map (λ (d : Directory). FoundDirectory d.number) (directory_at c p)) (option_map (λ (o : LiveObject). FoundObject o.object.number) o)) (elsewhere p (other_paths p path e))

  -- it is what its path leads to
  pub at_alive : at c path ≡ Some (FoundObject n)
  at_alive = (λ i. option_or (option_map (λ (d : Directory). FoundDirectory d.number) (no_directory_at c t path x alive i)) (option_map (λ (o : LiveObject). FoundObject o.object.number) (alive i))) ∙ ap (λ k. Some (FoundObject k)) own

-- ---- the entries

some_is : {X : Type 0} (x y : X) → Some x ≡ Some y → x ≡ y
some_is x y h = cc

module _ {T : Type 0} (n : ℕ) where
  -- what holds of all holds of what is found
  pub value_holds : (P : T → Type 0) (es : List (Entry T)) (x : T) → AllByRecursion (λ (e : Entry T). P e.value) es → value_under n es ≡ Some x → P x
  value_holds P [] x all found = absurd (let no = found in cc)
  value_holds P (e ∷ es) x all found = by (eqb e.number n) (value_holds P es x all.1) found
    where
      by : (b : Bool) → (value_under n es ≡ Some x → P x) → option_map (λ (e : Entry T). e.value) (cond b (Some e) (find (has_number n) es)) ≡ Some x → P x
      by true rest found = subst P (some_is e.value x found) all.0
      by false rest found = rest found

  pub all_without : (P : Entry T → Type 0) (test : Entry T → Bool) (es : List (Entry T)) → AllByRecursion P es → AllByRecursion P (without_first test es)
  all_without P test [] all = all
  all_without P test (e ∷ es) all = elim (test e) as (λ b. AllByRecursion P (cond b es (e ∷ without_first test es))) [ true ↦ all.1 | false ↦ (all.0, all_without P test es all.1) ]

  -- where none has the number none goes
  pub none_without : (es : List (Entry T)) → value_under n es ≡ None → without_first (has_number n) es ≡ es
  none_without [] none = refl
  none_without (e ∷ es) none = by (eqb e.number n) (none_without es) none
    where
      by : (b : Bool) → (value_under n es ≡ None → without_first (has_number n) es ≡ es) → option_map (λ (e : Entry T). e.value) (cond b (Some e) (find (has_number n) es)) ≡ None → cond b es (e ∷ without_first (has_number n) es) ≡ e ∷ es
      by true rest none = absurd (let no = none in cc)
      by false rest none = ap (λ fs. e ∷ fs) (rest none)

pub of_knowns : (P : LiveObject → Type 0) (es : List (Entry Placed)) → AllByRecursion P (knowns es) → AllByRecursion (λ (e : Entry Placed). P (known_of e.value)) es
of_knowns P [] all = tt
of_knowns P (e ∷ es) all = (all.0, of_knowns P es all.1)

-- the object of that number is gone, and no other is
pub gone_knowns : (n : ℕ) (es : List (Entry Placed)) (low high : ℕ) → AllTell (λ (x : Placed). x.object.number) es → RiseBetween low (map number_in (knowns es)) high
    → knowns (without_first (has_number n) es) ≡ filter_map (touched (bare_entry n Deleted)) (knowns es)
gone_knowns n [] low high told r = refl
gone_knowns n (e ∷ es) low high told r = by (eqb e.number n) refl (gone_knowns n es (e.value.object.number + 1) high told.1 r.1)
  where
    by : (b : Bool) → eqb e.number n ≡ b → knowns (without_first (has_number n) es) ≡ filter_map (touched (bare_entry n Deleted)) (knowns es)
        → knowns (cond b es (e ∷ without_first (has_number n) es)) ≡ cons_option (touched (bare_entry n Deleted) (known_of e.value)) (filter_map (touched (bare_entry n Deleted)) (knowns es))
    by true is rest =
        let own : e.value.object.number ≡ n = told.0 ∙ eqb-true e.number n is in
        let passes : eqb n e.value.object.number ≡ true = eq-eqb n e.value.object.number (sym own) in
        sym (λ i. cons_option (cond (passes i) None (Some (known_of e.value))) (untouched n Deleted (e.value.object.number + 1) high (knowns es) (omega (arith, own)) r.1 i))
    by false is rest =
        let fails : eqb n e.value.object.number ≡ false = flip e.value.object.number n false (ap (λ k. eqb k n) told.0 ∙ is) in
        sym (λ i. cons_option (cond (fails i) None (Some (known_of e.value))) (sym rest i))

-- ---- names

module _ (m : Map) (es : List (Entry Placed)) (k : ℕ) (ds : List (Entry Directory)) (j : ℕ) (named : IsNamed m es k ds j) (n : ℕ) where
  abbrev old : Content
  old = content_of (standing_by es k ds j)

  abbrev old_order : Order old
  old_order = order-in old named.order

  abbrev old_tree : Tree old
  old_tree = tree-in old named.tree

  abbrev then : Content
  then = apply_seen (AppendsRecord (bare_entry n Deleted)) old

  abbrev with_objects : List LiveObject → Content
  with_objects objects = content_of (record { objects = objects; next_object = k; directories = map (λ (e : Entry Directory). e.value) ds; next_directory = j })

  abbrev left : List (Entry Placed)
  left = without_first (has_number n) es

  pub are_left : knowns left ≡ filter_map (touched (bare_entry n Deleted)) (knowns es)
  are_left = gone_knowns n es 0 k named.objects_told named.order.objects_rise

  module _ (x : Placed) (found : value_under n es ≡ Some x) where
    pub own_number : x.object.number ≡ n
    own_number = eqb-true x.object.number n (find-true (λ (x : Placed). eqb x.object.number n) (map (λ (e : Entry Placed). e.value) es) x (sym (find_told (λ (x : Placed). x.object.number) n es named.objects_told) ∙ found))

    pub own_path : HasPath old x
    own_path = value_holds n (HasPath old) es x named.paths found

    own_name : object_in old x.object.name x.object.directory ≡ Some (known_of x)
    own_name = value_holds n (λ (x : Placed). object_in old x.object.name x.object.directory ≡ Some (known_of x)) es x (of_knowns (λ (o : LiveObject). object_in old o.object.name o.object.directory ≡ Some o) es named.tree.names) found

    stands_at : (p : Path) → parent_number old p ≡ Some x.object.directory → x.object.name ≡ last_name p → is_empty p ≡ false → object_at old p ≡ Some (known_of x)
    stands_at [] above name below = absurd (let no = below in cc)
    stands_at (q ∷ qs) above name below = object-at old q qs x.object.directory above ∙ ap (λ name. object_in old name x.object.directory) (sym name) ∙ own_name

    pub stands : object_at old x.path ≡ Some (known_of x)
    stands = stands_at x.path own_path.above own_path.name own_path.below_root

    -- nothing refuses its removal
    pub can_go : object_refusal m x.path ≡ None
    can_go =
        ap (λ f. refusal_of (find_at f x.path >>= (λ found. cond (is_object found) (Ok found) (Err Refusal.IsDirectory)))) (λ i p. named.names p i)
        ∙ ap (λ r. refusal_of (r >>= (λ found. cond (is_object found) (Ok found) (Err Refusal.IsDirectory)))) (find_found (at old) (at_closed old old_tree) x.path (FoundObject n) (at_alive old old_order old_tree n (known_of x) own_number x.path stands))

    names_are : (p : Path) → get (remove m x.path) p ≡ at (with_objects (knowns left)) p
    names_are p =
        get-remove paths_total m x.path p
        ∙ ap (λ o. cond (eq_by_cmp path_cmp p x.path) None o) (named.names p)
        ∙ sym (at_deleted old old_order old_tree n (known_of x) own_number x.path stands p)
        ∙ sym (at_alone then p)
        ∙ ap (λ objects. at (with_objects objects) p) (sym are_left)

    pub deleted_named : IsNamed (remove m x.path) left k ds j
    deleted_named = record {
      order = record {
        handles_rise = named.order.handles_rise;
        objects_rise = subst (λ xs. RiseBetween 0 (map number_in xs) k) (sym are_left) (rising-filter_map number_in (touched (bare_entry n Deleted)) (λ x. touched-of (λ o. o.number ≡ x.object.number) (bare_entry n Deleted) x refl) 0 k (knowns es) named.order.objects_rise);
        directories_rise = named.order.directories_rise;
        connections_rise = named.order.connections_rise;
      };
      tree = tree-out _ (subst (λ objects. Tree (with_objects objects)) (sym are_left) (tree_alone then (tree-kept (AppendsRecord (bare_entry n Deleted)) old old_order old_tree tt)));
      paths = all-imp (λ (e : Entry Placed). HasPath old e.value) (λ (e : Entry Placed). HasPath (with_objects (knowns left)) e.value) (λ e h. record { above = h.above; name = h.name; below_root = h.below_root }) left
          (all_without n (λ (e : Entry Placed). HasPath old e.value) (has_number n) es named.paths);
      names = names_are;
      objects_told = tell_without (λ (x : Placed). x.object.number) n es named.objects_told;
      directories_told = named.directories_told;
    }

  -- where there is no such object all stays
  pub none_left : value_under n es ≡ None → IsNamed m left k ds j
  none_left none = subst (λ fs. IsNamed m fs k ds j) (sym (none_without n es none)) named
