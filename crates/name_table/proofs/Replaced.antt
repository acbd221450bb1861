-- Names agree with what stands once another object took an object's place.
use Rattle.std.proofs.Common.{◌≡◌, ℕ, ◌+◌, Bool, true, false, cond, List, [], ◌∷◌, ◌++◌, Option, Some, None, refl, ap, sym, subst, ◌∙◌}
use Rattle.std.specs.Prelude.{is_some}
use Rattle.std.specs.List.{filter_map}
use Rattle.std.specs.Ordering.{eq_by_cmp}
use Rattle.std.specs.FinMap.{get, insert, remove, get-insert, get-remove}
use Rattle.pps_types.specs.declared.found.Found.{Found}
use Rattle.pps_types.specs.declared.found.Found.TheVariants.{Object as FoundObject}
use Rattle.pps_types.specs.declared.record.Kind.TheVariants.{Deleted}
use Rattle.pps_types.specs.Names.{Map, Path, path_cmp}
use Rattle.pps_types.specs.Content.{Object, Directory, LiveObject, Content, object_at}
use Rattle.pps_types.specs.Plan.{AppendsRecord, apply_seen, touched}
use Rattle.service_laws.proofs.Fits.{IsFree, Order, Tree, order-in, tree-in}
use Rattle.service_laws.proofs.Trees.{above-of}
use Rattle.alloc_tree.proofs.Orders.{paths_total}
use Rattle.number_table.specs.Numbered.{Entry, has_number, value_under, without_first}
use Rattle.name_table.specs.Standing.{Placed, known_of, standing_by, content_of, bare_entry}
use Rattle.name_table.specs.Agrees.{IsNamed}
use Rattle.name_table.proofs.Alone.{object_alone}
use Rattle.name_table.proofs.Happened.{knowns}
use Rattle.name_table.proofs.Deleted.{are_left, own_number, own_path, stands, no_directory_at, gone_at, deleted_named}
use Rattle.name_table.proofs.Created.{created_named, objects_are}

-- what comes to a path hides what was taken from it
insert_hides : (m : Map) (path : Path) (x : Found) (p : Path) → get (insert m path x) p ≡ get (insert (remove m path) path x) p
insert_hides m path x p =
    get-insert paths_total m path x p ∙ by (eq_by_cmp path_cmp p path) (get m p)
    ∙ sym (ap (λ o. cond (eq_by_cmp path_cmp p path) (Some x) o) (get-remove paths_total m path p))
    ∙ sym (get-insert paths_total (remove m path) path x p)
  where
    by : (b : Bool) (o : Option Found) → cond b (Some x) o ≡ cond b (Some x) (cond b None o)
    by true o = refl
    by false o = refl

module _ (m : Map) (es : List (Entry Placed)) (k : ℕ) (ds : List (Entry Directory)) (j : ℕ) (named : IsNamed m es k ds j) (n : ℕ) (x : Placed) (found : value_under n es ≡ Some x) where
  abbrev old : Content
  old = content_of (standing_by es k ds j)

  abbrev old_order : Order old
  old_order = order-in old named.order

  abbrev old_tree : Tree old
  old_tree = tree-in old named.tree

  abbrev then : Content
  then = apply_seen (AppendsRecord (bare_entry n Deleted)) old

  abbrev left : List (Entry Placed)
  left = without_first (has_number n) es

  abbrev without : IsNamed (remove m x.path) left k ds j
  without = deleted_named m es k ds j named n x found

  abbrev with_objects : List LiveObject → Content
  with_objects objects = content_of (record { objects = objects; next_object = k; directories = (standing_by es k ds j).directories; next_directory = j })

  -- its path is free
  given_up : IsFree (content_of (standing_by left k ds j)) x.path
  given_up = record {
    directory = no_directory_at old old_tree x.path (known_of x) (stands m es k ds j named n x found);
    object =
        ap (λ objects. object_at (with_objects objects) x.path) (are_left m es k ds j named n)
        ∙ object_alone then x.path
        ∙ gone_at old old_order old_tree n (known_of x) (own_number m es k ds j named n x found) x.path (stands m es k ds j named n x found) x.path (stands m es k ds j named n x found);
    above = ap is_some (above-of old x.path x.object.directory (own_path m es k ds j named n x found).above).1;
  }

  module _ (w : Placed) (a : ℕ) (nopersist : Bool) (server : Option ℕ) (number : a ≡ k)
      (object : w.object ≡ record { number = a; directory = x.object.directory; name = x.object.name; nopersist = nopersist; server = server }) (path : w.path ≡ x.path) (bare : w.held.attributes ≡ []) where
    abbrev newcomer : Object
    newcomer = record { number = k; directory = x.object.directory; name = x.object.name; nopersist = nopersist; server = server }

    abbrev came : Placed
    came = record { object = newcomer; path = x.path; held = w.held }

    came_is : came ≡ w
    came_is = sym (λ i. record { object = (object ∙ (λ j. record { number = number j; directory = x.object.directory; name = x.object.name; nopersist = nopersist; server = server })) i; path = path i; held = w.held })

    abbrev entry : Placed → Entry Placed
    entry w = record { number = k; value = w }

    created : IsNamed (insert (remove m x.path) x.path (FoundObject k)) (left ++ entry came ∷ []) (k + 1) ds j
    created = created_named (remove m x.path) left k ds j without x.path newcomer w.held given_up (own_path m es k ds j named n x found).above (own_path m es k ds j named n x found).name refl bare

    replaced : IsNamed (insert m x.path (FoundObject k)) (left ++ entry came ∷ []) (k + 1) ds j
    replaced = record {
      order = created.order;
      tree = created.tree;
      paths = created.paths;
      names = λ p. insert_hides m x.path (FoundObject k) p ∙ created.names p;
      objects_told = created.objects_told;
      directories_told = created.directories_told;
    }

    pub replaced_named : IsNamed (insert m x.path (FoundObject k)) (left ++ entry w ∷ []) (k + 1) ds j
    replaced_named = subst (λ w. IsNamed (insert m x.path (FoundObject k)) (left ++ entry w ∷ []) (k + 1) ds j) came_is replaced

    pub replaced_knowns : knowns (left ++ entry w ∷ []) ≡ filter_map (touched (bare_entry n Deleted)) (knowns es) ++ record { object = newcomer; attributes = [] } ∷ []
    replaced_knowns =
        ap (λ w. knowns (left ++ entry w ∷ [])) (sym came_is)
        ∙ sym (objects_are (remove m x.path) left k ds j without x.path newcomer w.held given_up (own_path m es k ds j named n x found).above (own_path m es k ds j named n x found).name refl bare)
        ∙ ap (λ objects. objects ++ record { object = newcomer; attributes = [] } ∷ []) (are_left m es k ds j named n)
