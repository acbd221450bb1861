-- Names agree with what stands once an object was created.
use Rattle.std.proofs.Common.{◌≡◌, ℕ, ◌+◌, false, cond, List, [], ◌∷◌, ◌++◌, map, Option, Some, None, Result, Ok, Err, refl, ap, sym, subst, ◌∙◌}
use Rattle.std.specs.Prelude.{is_some, option_map, ok_or}
use Rattle.std.specs.Option.{option_or}
use Rattle.std.specs.Ordering.{eq_by_cmp}
use Rattle.std.specs.FinMap.{get, insert, get-insert}
use Rattle.pps_types.specs.declared.found.Found.{Found}
use Rattle.pps_types.specs.declared.found.Found.TheVariants.{Object as FoundObject, Directory as FoundDirectory}
use Rattle.pps_types.specs.declared.refusal.Refusal.{Refusal}
use Rattle.pps_types.specs.Bytes.{is_empty, ◌>>=◌}
use Rattle.pps_types.specs.Names.{Map, Path, path_cmp, last_name, add_refusal, new_refusal, refusal_of, place, find_at, parent}
use Rattle.pps_types.specs.Content.{Object, Directory, LiveObject, Content, at, parent_number, directory_at, object_at}
use Rattle.pps_types.specs.Plan.{Creates, apply_seen}
use Rattle.pps_types.specs.WellFormed.{RiseBetween}
use Rattle.service_laws.proofs.Fits.{IsFree, IsPlaced, Order, Tree, order-in, tree-in, tree-out}
use Rattle.service_laws.proofs.Trees.{tree-kept}
use Rattle.service_laws.proofs.Passes.{free-place, place-at}
use Rattle.service_laws.proofs.Rising.{rising-push}
use Rattle.service_laws.proofs.Finds.{all-imp}
use Rattle.pps_types.proofs.Lists.{all-push}
use Rattle.object_state.specs.Held.{Held}
use Rattle.alloc_tree.proofs.Orders.{paths_total}
use Rattle.number_table.specs.Numbered.{Entry}
use Rattle.number_table.proofs.Told.{tell_push}
use Rattle.name_table.specs.Standing.{Placed, Standing, known_of, standing_by, content_of}
use Rattle.name_table.specs.Agrees.{IsNamed, HasPath}
use Rattle.name_table.proofs.Alone.{at_alone, tree_alone, map_push}
use Rattle.name_table.proofs.Places.{at-created}

-- ---- a free path

pub first_none : {X : Type 0} (a b : Option X) → option_or a b ≡ None → a ≡ None
first_none None b h = refl
first_none (Some x) b h = let e = h in cc

free_of : (r : Result (Option Found) Refusal) → refusal_of (r >>= (λ found. cond (is_some found) (Err Refusal.Exists) (Ok found))) ≡ None → r ≡ Ok None
free_of (Err e) h = absurd (let k = h in cc)
free_of (Ok None) h = refl
free_of (Ok (Some x)) h = absurd (let k = h in cc)

-- the directory that is found above a path is the one that holds its last name
pub above_found : (c : Content) (path : Path) (d : ℕ) → find_at (at c) (parent path) ≡ Ok (FoundDirectory d) → parent_number c path ≡ Some d
above_found c path d e = go (place (at c) (parent path)) refl e
  where
    numbered : (r : Option Directory) (o : Option LiveObject) → option_or (option_map (λ (d : Directory). FoundDirectory d.number) r) (option_map (λ (o : LiveObject). FoundObject o.object.number) o) ≡ Some (FoundDirectory d) → option_map (λ (d : Directory). d.number) r ≡ Some d
    numbered None None f = absurd (let h = f in cc)
    numbered None (Some o) f = absurd (let h = f in cc)
    numbered (Some r) o f = let h = f in cc

    go : (r : Result (Option Found) Refusal) → place (at c) (parent path) ≡ r → (r >>= (λ found. ok_or found Refusal.NotFound)) ≡ Ok (FoundDirectory d) → parent_number c path ≡ Some d
    go (Err x) is f = absurd (let h = f in cc)
    go (Ok None) is f = absurd (let h = f in cc)
    go (Ok (Some x)) is f =
        let same : x ≡ FoundDirectory d = let h = f in cc in
        numbered (directory_at c (parent path)) (object_at c (parent path)) (place-at (at c) (parent path) (Some x) is ∙ ap Some same)

pub below_root : (c : Content) → Tree c → (p : Path) → IsFree c p → is_empty p ≡ false
below_root c t [] free = absurd (let no = sym free.directory ∙ t.0 in cc)
below_root c t (n ∷ ns) free = refl

module _ (m : Map) (es : List (Entry Placed)) (k : ℕ) (ds : List (Entry Directory)) (j : ℕ) (named : IsNamed m es k ds j) where
  abbrev old : Content
  old = content_of (standing_by es k ds j)

  abbrev old_order : Order old
  old_order = order-in old named.order

  abbrev old_tree : Tree old
  old_tree = tree-in old named.tree

  pub free_path : (path : Path) → new_refusal (get m) path ≡ None → IsFree old path
  free_path path h = free-place old old_tree path (free_of (place (at old) path) (ap (λ f. new_refusal f path) (λ i p. sym (named.names p) i) ∙ h))

  pub added_path : (path : Path) → add_refusal m path ≡ None → IsFree old path
  added_path path h = free_path path (first_none _ _ h)

  module _ (path : Path) (o : Object) (held : Held) (at_free : IsFree old path) (above : parent_number old path ≡ Some o.directory) (name : o.name ≡ last_name path) (number : o.number ≡ k) (bare : held.attributes ≡ []) where
    abbrev newcomer : Placed
    newcomer = record { object = o; path = path; held = held }

    abbrev entry : Entry Placed
    entry = record { number = k; value = newcomer }

    abbrev is_placed : IsPlaced old o
    is_placed = record { path = path; at_free = at_free; number = above; name = name }

    abbrev now : Content
    now = apply_seen (Creates o) old

    abbrev knowns : List (Entry Placed) → List LiveObject
    knowns es = map (λ (e : Entry Placed). known_of e.value) es

    abbrev standing_with : List LiveObject → Standing
    standing_with objects = record { objects = objects; next_object = k + 1; directories = map (λ (e : Entry Directory). e.value) ds; next_directory = j }

    pub objects_are : knowns es ++ record { object = o; attributes = [] } ∷ [] ≡ knowns (es ++ entry ∷ [])
    objects_are = ap (λ attributes. knowns es ++ record { object = o; attributes = attributes } ∷ []) (sym bare) ∙ sym (map_push (λ (e : Entry Placed). known_of e.value) es entry)

    numbers_are : map (λ (x : LiveObject). x.object.number) (knowns es) ++ k ∷ [] ≡ map (λ (x : LiveObject). x.object.number) (knowns (es ++ entry ∷ []))
    numbers_are = ap (λ n. map (λ (x : LiveObject). x.object.number) (knowns es) ++ n ∷ []) (sym number) ∙ sym (map_push (λ (x : LiveObject). x.object.number) (knowns es) (known_of newcomer)) ∙ ap (map (λ (x : LiveObject). x.object.number)) (sym (map_push (λ (e : Entry Placed). known_of e.value) es entry))

    names_are : (p : Path) → get (insert m path (FoundObject k)) p ≡ at (content_of (standing_by (es ++ entry ∷ []) (k + 1) ds j)) p
    names_are p =
        get-insert paths_total m path (FoundObject k) p
        ∙ ap (λ x. cond (eq_by_cmp path_cmp p path) (Some (FoundObject k)) x) (named.names p)
        ∙ ap (λ n. cond (eq_by_cmp path_cmp p path) (Some (FoundObject n)) (at old p)) (sym number)
        ∙ sym (at-created old old_order old_tree o is_placed p)
        ∙ sym (at_alone now p)
        ∙ ap (λ objects. at (content_of (standing_with objects)) p) objects_are

    pub created_named : IsNamed (insert m path (FoundObject k)) (es ++ entry ∷ []) (k + 1) ds j
    created_named = record {
      order = record {
        handles_rise = named.order.handles_rise;
        objects_rise = subst (λ ns. RiseBetween 0 ns (k + 1)) numbers_are (rising-push 0 k _ named.order.objects_rise);
        directories_rise = named.order.directories_rise;
        connections_rise = named.order.connections_rise;
      };
      tree = tree-out _ (subst (λ objects. Tree (content_of (standing_with objects))) objects_are (tree_alone now (tree-kept (Creates o) old old_order old_tree (number, is_placed))));
      paths = all-push (λ (e : Entry Placed). HasPath (content_of (standing_by (es ++ entry ∷ []) (k + 1) ds j)) e.value) es entry
          (all-imp (λ (e : Entry Placed). HasPath old e.value) (λ (e : Entry Placed). HasPath (content_of (standing_by (es ++ entry ∷ []) (k + 1) ds j)) e.value) (λ e h. record { above = h.above; name = h.name; below_root = h.below_root }) es named.paths)
          record { above = above; name = name; below_root = below_root old old_tree path at_free };
      names = names_are;
      objects_told = tell_push (λ (x : Placed). x.object.number) es k newcomer named.objects_told number;
      directories_told = named.directories_told;
    }
