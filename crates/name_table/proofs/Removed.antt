-- Names agree with what stands once a directory was removed.
use Rattle.std.proofs.Common.{◌≡◌, ℕ, Bool, true, false, cond, ◌&&◌, eqb, eqb-true, eq-eqb, List, [], ◌∷◌, ◌++◌, map, Option, Some, None, IfSome, Ok, Err, refl, ap, sym, subst, ◌∙◌}
use Rattle.std.specs.Prelude.{not, filter, option_map, option_and_then}
use Rattle.std.specs.Option.{option_or, option_map_or}
use Rattle.std.specs.Ordering.{eq_by_cmp}
use Rattle.std.specs.FinMap.{get, remove, get-remove}
use Rattle.pps_types.specs.declared.found.Found.{Found}
use Rattle.pps_types.specs.declared.found.Found.TheVariants.{Object as FoundObject, Directory as FoundDirectory}
use Rattle.pps_types.specs.declared.refusal.Refusal.{Refusal}
use Rattle.pps_types.specs.Bytes.{same, is_empty, ◌>>=◌}
use Rattle.pps_types.specs.Names.{Map, Path, path_cmp, name_cmp, same_path, parent, last_name, is_object, rmdir_refusal, refused_if, refusal_of, members_of, find_at, sorted_by}
use Rattle.pps_types.specs.Content.{Directory, LiveObject, Content, at, parent_number, directory_at, object_at, object_in, members}
use Rattle.pps_types.specs.Plan as planning
use Rattle.pps_types.specs.Plan.{RemovesDirectory, apply_seen}
use Rattle.pps_types.specs.WellFormed.{RiseBetween, directory_numbered}
use Rattle.service_laws.proofs.Fits.{IsEmptied, Order, Tree, order-in, tree-in, tree-out}
use Rattle.service_laws.proofs.Trees.{tree-kept, of_name, path-of, one-directory, above-of, same_path-is}
use Rattle.service_laws.proofs.Rising.{rising-without, none-left}
use Rattle.pps_types.proofs.Lists.{all-without_first}
use Rattle.service_laws.proofs.Finds.{all-imp, all-both, all-find, all-none, find-true, find-without, none-without, filter-empty, sorted-empty}
use Rattle.alloc_tree.proofs.Orders.{paths_total}
use Rattle.number_table.specs.Numbered.{Entry, AllTell, has_number, value_under, without_first}
use Rattle.number_table.proofs.Told.{tell_without, find_told}
use Rattle.name_table.specs.Standing.{Placed, Standing, known_of, standing_by, content_of}
use Rattle.name_table.specs.Agrees.{IsNamed, HasPath}
use Rattle.name_table.specs.Listed.{IsBare, object_member, directory_member}
use Rattle.name_table.proofs.Alone.{at_alone, tree_alone}
use Rattle.name_table.proofs.Places.{equal_paths, other_paths}
use Rattle.name_table.proofs.Deleted.{find_found, at_closed, value_holds, none_without, of_knowns}
use Rattle.name_table.proofs.Sorting.{all_map_out}
use Rattle.name_table.proofs.Listed.{members_are}

abbrev found_object : LiveObject → Found
found_object o = FoundObject o.object.number

abbrev found_directory : Directory → Found
found_directory d = FoundDirectory d.number

abbrev number_of : Option Directory → Option ℕ
number_of d = option_map (λ (d : Directory). d.number) d

some_is : {X : Type 0} (x y : X) → Some x ≡ Some y → x ≡ y
some_is x y h = cc

-- ---- what stands at each path

module _ (c : Content) (r : Order c) (t : Tree c) (n : ℕ) (f : IsEmptied c n) where
  abbrev gone : Directory → Bool
  gone d = eqb d.number n

  abbrev now : Content
  now = apply_seen (RemovesDirectory n) c

  directory_gone : directory_at now f.path ≡ None
  directory_gone = all-none (λ (d : Directory). same_path d.path f.path) (planning.without_first gone c.directories)
      (all-imp (λ (d : Directory). (gone d ≡ false) × (directory_at c d.path ≡ Some d)) (λ (d : Directory). same_path d.path f.path ≡ false) each (planning.without_first gone c.directories)
      (all-both (λ (d : Directory). gone d ≡ false) (λ (d : Directory). directory_at c d.path ≡ Some d) (planning.without_first gone c.directories) (none-left (λ (d : Directory). d.number) n 0 c.next_directory c.directories r.2) (all-without_first (λ (d : Directory). directory_at c d.path ≡ Some d) gone c.directories t.2)))
    where
      each : (d : Directory) → (gone d ≡ false) × (directory_at c d.path ≡ Some d) → same_path d.path f.path ≡ false
      each d h = go (same_path d.path f.path) refl
        where
          go : (b : Bool) → same_path d.path f.path ≡ b → b ≡ false
          go false e = refl
          go true e =
              let is : d ≡ f.directory = some_is d f.directory (sym h.1 ∙ ap (directory_at c) (same_path-is d.path f.path e) ∙ f.found) in
              let goes : gone d ≡ true = eq-eqb d.number n (ap (λ (d : Directory). d.number) is ∙ f.own) in
              absurd (let no = sym goes ∙ h.0 in cc)

  directory_elsewhere : (p : Path) → (p ≡ f.path → ⊥) → directory_at now p ≡ directory_at c p
  directory_elsewhere p other = by (directory_at c p) refl
    where
      by : (o : Option Directory) → directory_at c p ≡ o → directory_at now p ≡ directory_at c p
      by None e = none-without (λ (d : Directory). same_path d.path p) gone c.directories e ∙ sym e
      by (Some d) e = go (gone d) refl
        where
          go : (b : Bool) → gone d ≡ b → directory_at now p ≡ directory_at c p
          go false g = find-without (λ (d : Directory). same_path d.path p) gone c.directories d e g ∙ sym e
          go true g =
              let is : d ≡ f.directory = one-directory c r (λ d. same_path d.path f.path) (λ d. same_path d.path p) f.directory d f.found e (eqb-true d.number n g ∙ sym f.own) in
              absurd (other (sym (path-of c p d e) ∙ ap (λ (d : Directory). d.path) is ∙ path-of c f.path f.directory f.found))

  -- no object was in it
  empty : (name : List ℕ) → object_in c name f.directory.number ≡ None
  empty name = all-none (of_name name f.directory.number) c.objects (all-imp (λ (o : LiveObject). eqb o.object.directory n ≡ false) (λ (o : LiveObject). of_name name f.directory.number o ≡ false)
      (λ o h. ap (λ b. b && same o.object.name name) (ap (eqb o.object.directory) f.own ∙ h)) c.objects f.no_objects)

  -- each object stands where it stood
  object_kept : (p : Path) → object_at now p ≡ object_at c p
  object_kept [] = refl
  object_kept (m ∷ ms) = by (eq_by_cmp path_cmp (parent (m ∷ ms)) f.path) refl
    where
      by : (b : Bool) → eq_by_cmp path_cmp (parent (m ∷ ms)) f.path ≡ b → option_and_then (object_in c (last_name (m ∷ ms))) (number_of (directory_at now (parent (m ∷ ms)))) ≡ option_and_then (object_in c (last_name (m ∷ ms))) (number_of (directory_at c (parent (m ∷ ms))))
      by true e =
          let is : parent (m ∷ ms) ≡ f.path = equal_paths (parent (m ∷ ms)) f.path e in
          ap (λ d. option_and_then (object_in c (last_name (m ∷ ms))) (number_of d)) (ap (directory_at now) is ∙ directory_gone)
          ∙ sym (empty (last_name (m ∷ ms)))
          ∙ sym (ap (λ d. option_and_then (object_in c (last_name (m ∷ ms))) (number_of d)) (ap (directory_at c) is ∙ f.found))
      by false e = ap (λ d. option_and_then (object_in c (last_name (m ∷ ms))) (number_of d)) (directory_elsewhere (parent (m ∷ ms)) (other_paths (parent (m ∷ ms)) f.path e))

  no_object_there : object_at c f.path ≡ None
  no_object_there = subst (λ p. object_at c p ≡ None) (path-of c f.path f.directory f.found) (all-find (λ (d : Directory). object_at c d.path ≡ None) (λ (d : Directory). same_path d.path f.path) c.directories f.directory t.3 f.found)

  pub at_removed : (p : Path) → at now p ≡ cond (eq_by_cmp path_cmp p f.path) None (at c p)
  at_removed p = by (eq_by_cmp path_cmp p f.path) refl
    where
      by : (b : Bool) → eq_by_cmp path_cmp p f.path ≡ b → at now p ≡ cond b None (at c p)
      by true e =
          let is : p ≡ f.path = equal_paths p f.path e in
          (λ i. option_or (option_map found_directory ((ap (directory_at now) is ∙ directory_gone) i)) (option_map found_object ((object_kept p ∙ ap (object_at c) is ∙ no_object_there) i)))
      by false e = (λ i. option_or (option_map found_directory (directory_elsewhere p (other_paths p f.path e) i)) (option_map found_object (object_kept p i)))

  -- the directory of a number above a path stays, where it is another
  pub above_removed : (p : Path) (k : ℕ) → parent_number c p ≡ Some k → eqb k n ≡ false → parent_number now p ≡ Some k
  above_removed p k e other =
      let d = above-of c p k e in
      ap number_of (find-without (λ (d : Directory). same_path d.path (parent p)) gone c.directories d.0 d.1 (ap (λ k. eqb k n) d.2 ∙ other)) ∙ ap Some d.2

-- ---- the entries

abbrev pub values : List (Entry Directory) → List Directory
values ds = map (λ (e : Entry Directory). e.value) ds

-- the directory of that number is gone, and no other is
pub gone_values : (n : ℕ) (ds : List (Entry Directory)) → AllTell (λ (d : Directory). d.number) ds → values (without_first (has_number n) ds) ≡ planning.without_first (λ (d : Directory). eqb d.number n) (values ds)
gone_values n [] told = refl
gone_values n (e ∷ ds) told = go (eqb e.number n) (gone_values n ds told.1) ∙ ap (λ k. cond (eqb k n) (values ds) (e.value ∷ planning.without_first (λ (d : Directory). eqb d.number n) (values ds))) (sym told.0)
  where
    go : (b : Bool) → values (without_first (has_number n) ds) ≡ planning.without_first (λ (d : Directory). eqb d.number n) (values ds)
        → values (cond b ds (e ∷ without_first (has_number n) ds)) ≡ cond b (values ds) (e.value ∷ planning.without_first (λ (d : Directory). eqb d.number n) (values ds))
    go true rest = refl
    go false rest = ap (λ vs. e.value ∷ vs) rest

-- ---- names

module _ (m : Map) (es : List (Entry Placed)) (k : ℕ) (ds : List (Entry Directory)) (j : ℕ) (named : IsNamed m es k ds j) (n : ℕ) where
  abbrev old : Content
  old = content_of (standing_by es k ds j)

  abbrev old_order : Order old
  old_order = order-in old named.order

  abbrev old_tree : Tree old
  old_tree = tree-in old named.tree

  abbrev left : List (Entry Directory)
  left = without_first (has_number n) ds

  -- where there is no such directory all stays
  pub none_left : value_under n ds ≡ None → IsNamed m es k left j
  none_left none = subst (λ fs. IsNamed m es k fs j) (sym (none_without n ds none)) named

  pub are_left : values left ≡ planning.without_first (λ (d : Directory). eqb d.number n) (values ds)
  are_left = gone_values n ds named.directories_told

  -- it is found by its number
  pub numbered : value_under n ds ≡ directory_numbered old n
  numbered = find_told (λ (d : Directory). d.number) n ds named.directories_told

  module _ (d : Directory) (found : value_under n ds ≡ Some d) (bare : IfSome (directory_numbered old n) (λ d. IsBare old d)) where
    is_bare : IsBare old d
    is_bare = subst (λ o. IfSome o (λ d. IsBare old d)) (sym numbered ∙ found) bare

    own_number : d.number ≡ n
    own_number = eqb-true d.number n (find-true (λ (d : Directory). eqb d.number n) (values ds) d (sym numbered ∙ found))

    own_path : directory_at old d.path ≡ Some d
    own_path = value_holds n (λ (d : Directory). directory_at old d.path ≡ Some d) ds d (all_map_out (λ (d : Directory). directory_at old d.path ≡ Some d) (λ (e : Entry Directory). e.value) ds named.tree.paths) found

    emptied : IsEmptied old n
    emptied = record {
      path = d.path;
      directory = d;
      found = own_path;
      own = own_number;
      not_root = is_bare.below_root;
      no_objects = filter-empty (λ (o : LiveObject). eqb o.object.directory n) old.objects (sorted-empty name_cmp (λ (o : LiveObject). o.object.name) _ (ap (λ k. is_empty (sorted_by name_cmp (λ (o : LiveObject). o.object.name) (filtered k))) (sym own_number) ∙ ap is_empty is_bare.no_objects));
      no_directories = filter-empty (λ (r : Directory). not (same_path r.path []) && same_path (parent r.path) d.path) old.directories (ap is_empty is_bare.no_directories);
      no_handles = tt;
    }
      where
        filtered : ℕ → List LiveObject
        filtered k = filter (λ (o : LiveObject). eqb o.object.directory k) old.objects

    -- nothing refuses its removal
    at_itself : at old d.path ≡ Some (FoundDirectory d.number)
    at_itself = ap (λ o. option_or (option_map found_directory o) (option_map found_object (object_at old d.path))) own_path

    no_members : members_of m d.path ≡ []
    no_members =
        members_are old old_order old_tree d.path m named.names
        ∙ (λ i. sorted_by name_cmp (λ m. m.0) (map object_member ((ap (λ o. objects_of o) own_path ∙ is_bare.no_objects) i) ++ map directory_member (is_bare.no_directories i)))
      where
        objects_of : Option Directory → List LiveObject
        objects_of o = option_map_or (λ d. members old d.number) o []

    pub can_go : rmdir_refusal m d.path ≡ None
    can_go =
        (λ i. option_or (refused_if (is_bare.below_root i) Refusal.Busy)
        (option_or (refusal_of (find_at (λ p. named.names p i) d.path >>= (λ found. cond (is_object found) (Err Refusal.NotDirectory) (Ok found))))
        (refused_if (not (is_empty (no_members i))) Refusal.NotEmpty)))
        ∙ ap (λ r. option_or (refusal_of (r >>= (λ found. cond (is_object found) (Err Refusal.NotDirectory) (Ok found)))) None) (find_found (at old) (at_closed old old_tree) d.path (FoundDirectory d.number) at_itself)

    abbrev then : Content
    then = apply_seen (RemovesDirectory n) old

    abbrev with_directories : List Directory → Content
    with_directories directories = content_of (record { objects = map (λ (e : Entry Placed). known_of e.value) es; next_object = k; directories = directories; next_directory = j })

    names_are : (p : Path) → get (remove m d.path) p ≡ at (with_directories (values left)) p
    unfolding emptied
    names_are p =
        get-remove paths_total m d.path p
        ∙ ap (λ o. cond (eq_by_cmp path_cmp p d.path) None o) (named.names p)
        ∙ sym (at_removed old old_order old_tree n emptied p)
        ∙ sym (at_alone then p)
        ∙ ap (λ directories. at (with_directories directories) p) (sym are_left)

    path_kept : (x : Placed) → HasPath old x × (eqb x.object.directory n ≡ false) → HasPath (with_directories (values left)) x
    path_kept x h = record {
      above = ap (λ directories. parent_number (with_directories directories) x.path) are_left ∙ above_removed old old_order old_tree n emptied x.path x.object.directory h.0.above h.1;
      name = h.0.name;
      below_root = h.0.below_root;
    }

    pub removed_named : IsNamed (remove m d.path) es k left j
    removed_named = record {
      order = record {
        handles_rise = named.order.handles_rise;
        objects_rise = named.order.objects_rise;
        directories_rise = subst (λ ds. RiseBetween 0 (map (λ (d : Directory). d.number) ds) j) (sym are_left) (rising-without (λ (d : Directory). d.number) (λ (d : Directory). eqb d.number n) 0 j (values ds) named.order.directories_rise);
        connections_rise = named.order.connections_rise;
      };
      tree = tree-out _ (subst (λ directories. Tree (with_directories directories)) (sym are_left) (tree_alone then (tree-kept (RemovesDirectory n) old old_order old_tree emptied)));
      paths = all-imp (λ (e : Entry Placed). HasPath old e.value × (eqb e.value.object.directory n ≡ false)) (λ (e : Entry Placed). HasPath (with_directories (values left)) e.value) (λ e h. path_kept e.value h) es
          (all-both (λ (e : Entry Placed). HasPath old e.value) (λ (e : Entry Placed). eqb e.value.object.directory n ≡ false) es named.paths (of_knowns (λ (o : LiveObject). eqb o.object.directory n ≡ false) es emptied.no_objects));
      names = names_are;
      objects_told = named.objects_told;
      directories_told = tell_without (λ (d : Directory). d.number) n ds named.directories_told;
    }

-- what stands, by the directories
abbrev pub standing_of_directories : List (Entry Placed) → ℕ → ℕ → List Directory → Standing
standing_of_directories es k j directories = record { objects = map (λ (e : Entry Placed). known_of e.value) es; next_object = k; directories = directories; next_directory = j }
