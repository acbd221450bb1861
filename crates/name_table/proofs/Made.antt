-- Names agree with what stands once a directory was made.
use Rattle.std.proofs.Common.{◌≡◌, ℕ, ◌+◌, ◌<◌, Bool, true, false, cond, ◌&&◌, eqb, eqb-true, List, [], ◌∷◌, ◌++◌, map, Option, Some, None, refl, ap, sym, subst, ◌∙◌}
use Rattle.std.specs.Prelude.{is_some, option_map, option_and_then}
use Rattle.std.specs.Option.{option_or}
use Rattle.std.specs.Ordering.{eq_by_cmp}
use Rattle.std.specs.FinMap.{get, insert, get-insert}
use Rattle.pps_types.specs.declared.found.Found.{Found}
use Rattle.pps_types.specs.declared.found.Found.TheVariants.{Object as FoundObject, Directory as FoundDirectory}
use Rattle.pps_types.specs.Bytes.{same}
use Rattle.pps_types.specs.Names.{Map, Path, path_cmp, same_path, last_name, parent, mkdir_refusal}
use Rattle.pps_types.specs.Content.{Directory, LiveObject, Content, at, parent_number, directory_at, object_at, object_in}
use Rattle.pps_types.specs.Plan.{MakesDirectory, apply_seen}
use Rattle.pps_types.specs.WellFormed.{RiseBetween, directory_numbered}
use Rattle.service_laws.proofs.Fits.{IsFree, Order, Tree, order-in, tree-in, tree-out}
use Rattle.service_laws.proofs.Trees.{tree-kept, above-of, same_path-is, path-itself, of_name}
use Rattle.service_laws.proofs.Rising.{rising-push, rising-below}
use Rattle.service_laws.proofs.Finds.{some-of, all-imp, all-find, all-none, find-true, find-push, find-last}
use Rattle.alloc_tree.proofs.Orders.{paths_total}
use Rattle.number_table.specs.Numbered.{Entry}
use Rattle.number_table.proofs.Told.{tell_push}
use Rattle.name_table.specs.Standing.{Placed, known_of, standing_by, content_of}
use Rattle.name_table.specs.Agrees.{IsNamed, HasPath}
use Rattle.name_table.proofs.Alone.{at_alone, tree_alone, map_push}
use Rattle.name_table.proofs.Places.{equal_paths, other_paths}
use Rattle.name_table.proofs.Happened.{apart}
use Rattle.name_table.proofs.Created.{free_path, first_none}

abbrev found_object : LiveObject → Found
found_object o = FoundObject o.object.number

abbrev found_directory : Directory → Found
found_directory d = FoundDirectory d.number

module _ (c : Content) (r : Order c) (t : Tree c) (path : Path) (free : IsFree c path) where
  abbrev made : Directory
  made = record { number = c.next_directory; path = path }

  abbrev now : Content
  now = apply_seen (MakesDirectory path) c

  -- no object is in a directory of that number
  empty : (name : List ℕ) → object_in c name c.next_directory ≡ None
  empty name = all-none (of_name name c.next_directory) c.objects (all-imp (λ (o : LiveObject). is_some (directory_numbered c o.object.directory) ≡ true) (λ (o : LiveObject). of_name name c.next_directory o ≡ false) each c.objects t.5)
    where
      each : (o : LiveObject) → is_some (directory_numbered c o.object.directory) ≡ true → of_name name c.next_directory o ≡ false
      each o stands =
          let d = some-of (directory_numbered c o.object.directory) stands in
          let own : d.0.number ≡ o.object.directory = eqb-true d.0.number o.object.directory (find-true (λ (d : Directory). eqb d.number o.object.directory) c.directories d.0 d.1) in
          let below : d.0.number < c.next_directory = all-find (λ (d : Directory). d.number < c.next_directory) (λ (d : Directory). eqb d.number o.object.directory) c.directories d.0 (rising-below (λ (d : Directory). d.number) 0 c.next_directory c.directories r.2) d.1 in
          ap (λ b. b && same o.object.name name) (apart o.object.directory c.next_directory (subst (λ n. n < c.next_directory) own below))

  -- at other paths stands the same directory
  directory-elsewhere : (p : Path) → (p ≡ path → ⊥) → directory_at now p ≡ directory_at c p
  directory-elsewhere p other = by (directory_at c p) refl
    where
      is_not : (b : Bool) → same_path path p ≡ b → cond b (Some made) None ≡ None
      is_not false e = refl
      is_not true e = absurd (other (sym (same_path-is path p e)))

      by : (o : Option Directory) → directory_at c p ≡ o → directory_at now p ≡ directory_at c p
      by None e = find-last (λ (d : Directory). same_path d.path p) c.directories made e ∙ is_not (same_path path p) refl ∙ sym e
      by (Some d) e = find-push (λ (d : Directory). same_path d.path p) c.directories made d e ∙ sym e

  directory-made : directory_at now path ≡ Some made
  directory-made = find-last (λ (d : Directory). same_path d.path path) c.directories made free.directory ∙ ap (λ b. cond b (Some made) None) (path-itself path)

  abbrev number_of : Option Directory → Option ℕ
  number_of d = option_map (λ (d : Directory). d.number) d

  -- each object stands where it stood
  object-kept : (p : Path) → object_at now p ≡ object_at c p
  object-kept [] = refl
  object-kept (n ∷ ns) = by (eq_by_cmp path_cmp (parent (n ∷ ns)) path) refl
    where
      by : (b : Bool) → eq_by_cmp path_cmp (parent (n ∷ ns)) path ≡ b → option_and_then (object_in c (last_name (n ∷ ns))) (number_of (directory_at now (parent (n ∷ ns)))) ≡ option_and_then (object_in c (last_name (n ∷ ns))) (number_of (directory_at c (parent (n ∷ ns))))
      by true e =
          let is : parent (n ∷ ns) ≡ path = equal_paths (parent (n ∷ ns)) path e in
          ap (λ d. option_and_then (object_in c (last_name (n ∷ ns))) (number_of d)) (ap (directory_at now) is ∙ directory-made)
          ∙ empty (last_name (n ∷ ns))
          ∙ sym (ap (λ d. option_and_then (object_in c (last_name (n ∷ ns))) (number_of d)) (ap (directory_at c) is ∙ free.directory))
      by false e = ap (λ d. option_and_then (object_in c (last_name (n ∷ ns))) (number_of d)) (directory-elsewhere (parent (n ∷ ns)) (other_paths (parent (n ∷ ns)) path e))

  pub at-made : (p : Path) → at now p ≡ cond (eq_by_cmp path_cmp p path) (Some (FoundDirectory c.next_directory)) (at c p)
  at-made p = by (eq_by_cmp path_cmp p path) refl
    where
      by : (b : Bool) → eq_by_cmp path_cmp p path ≡ b → at now p ≡ cond b (Some (FoundDirectory c.next_directory)) (at c p)
      by true e = ap (λ d. option_or (option_map found_directory d) (option_map found_object (object_at now p))) (ap (directory_at now) (equal_paths p path e) ∙ directory-made)
      by false e = (λ i. option_or (option_map found_directory (directory-elsewhere p (other_paths p path e) i)) (option_map found_object (object-kept p i)))

  -- the directory of a number above a path stays
  pub above-made : (p : Path) (k : ℕ) → parent_number c p ≡ Some k → parent_number now p ≡ Some k
  above-made p k e =
      let d = above-of c p k e in
      ap (option_map (λ (d : Directory). d.number)) (find-push (λ (d : Directory). same_path d.path (parent p)) c.directories made d.0 d.1) ∙ ap Some d.2

module _ (m : Map) (es : List (Entry Placed)) (k : ℕ) (ds : List (Entry Directory)) (j : ℕ) (named : IsNamed m es k ds j) (path : Path) (free : mkdir_refusal m path ≡ None) where
  abbrev old : Content
  old = content_of (standing_by es k ds j)

  abbrev old_order : Order old
  old_order = order-in old named.order

  abbrev old_tree : Tree old
  old_tree = tree-in old named.tree

  abbrev newcomer : Directory
  newcomer = record { number = j; path = path }

  abbrev entry : Entry Directory
  entry = record { number = j; value = newcomer }

  abbrev at_free : IsFree old path
  at_free = free_path m es k ds j named path (first_none _ _ free)

  abbrev then : Content
  then = apply_seen (MakesDirectory path) old

  abbrev values : List (Entry Directory) → List Directory
  values ds = map (λ (e : Entry Directory). e.value) ds

  abbrev with_directories : List Directory → Content
  with_directories directories = content_of (record { objects = map (λ (e : Entry Placed). known_of e.value) es; next_object = k; directories = directories; next_directory = j + 1 })

  directories_are : values ds ++ newcomer ∷ [] ≡ values (ds ++ entry ∷ [])
  directories_are = sym (map_push (λ (e : Entry Directory). e.value) ds entry)

  numbers_are : map (λ (d : Directory). d.number) (values ds) ++ j ∷ [] ≡ map (λ (d : Directory). d.number) (values (ds ++ entry ∷ []))
  numbers_are = sym (map_push (λ (d : Directory). d.number) (values ds) newcomer) ∙ ap (map (λ (d : Directory). d.number)) directories_are

  names_are : (p : Path) → get (insert m path (FoundDirectory j)) p ≡ at (content_of (standing_by es k (ds ++ entry ∷ []) (j + 1))) p
  names_are p =
      get-insert paths_total m path (FoundDirectory j) p
      ∙ ap (λ x. cond (eq_by_cmp path_cmp p path) (Some (FoundDirectory j)) x) (named.names p)
      ∙ sym (at-made old old_order old_tree path at_free p)
      ∙ sym (at_alone then p)
      ∙ ap (λ directories. at (with_directories directories) p) directories_are

  path_kept : (x : Placed) → HasPath old x → HasPath (content_of (standing_by es k (ds ++ entry ∷ []) (j + 1))) x
  path_kept x h = record {
    above = ap (λ directories. parent_number (with_directories directories) x.path) (sym directories_are) ∙ above-made old old_order old_tree path at_free x.path x.object.directory h.above;
    name = h.name;
    below_root = h.below_root;
  }

  pub made_named : IsNamed (insert m path (FoundDirectory j)) es k (ds ++ entry ∷ []) (j + 1)
  made_named = record {
    order = record {
      handles_rise = named.order.handles_rise;
      objects_rise = named.order.objects_rise;
      directories_rise = subst (λ ns. RiseBetween 0 ns (j + 1)) numbers_are (rising-push 0 j _ named.order.directories_rise);
      connections_rise = named.order.connections_rise;
    };
    tree = tree-out _ (subst (λ directories. Tree (with_directories directories)) directories_are (tree_alone then (tree-kept (MakesDirectory path) old old_order old_tree at_free)));
    paths = all-imp (λ (e : Entry Placed). HasPath old e.value) (λ (e : Entry Placed). HasPath (content_of (standing_by es k (ds ++ entry ∷ []) (j + 1))) e.value) (λ e h. path_kept e.value h) es named.paths;
    names = names_are;
    objects_told = named.objects_told;
    directories_told = tell_push (λ (d : Directory). d.number) ds j newcomer named.directories_told refl;
  }
