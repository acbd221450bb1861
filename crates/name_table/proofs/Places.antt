-- What stands at each path after a move.
use Rattle.std.proofs.Common.{◌≡◌, ℕ, Bool, true, false, cond, ◌&&◌, eq-eqb, [], ◌∷◌, Option, Some, None, refl, sym, ap, ◌∙◌}
use Rattle.std.specs.Prelude.{option_map, option_and_then}
use Rattle.std.specs.Option.{option_or}
use Rattle.std.specs.Ordering.{eq_by_cmp, is_eq, ordering_reverse}
use Rattle.std.specs.declared.cmp.Ordering.{Ordering}
use Rattle.std.specs.declared.cmp.Ordering.TheVariants.{Less, Equal, Greater}
use Rattle.pps_types.specs.declared.found.Found.{Found}
use Rattle.pps_types.specs.declared.found.Found.TheVariants.{Object as FoundObject, Directory as FoundDirectory}
use Rattle.pps_types.specs.Names.{Path, path_cmp, last_name}
use Rattle.pps_types.specs.Content.{Object, Directory, LiveObject, Content, directory_at, parent_number, object_at, object_in, at}
use Rattle.pps_types.specs.Plan.{Creates, apply_seen}
use Rattle.service_laws.proofs.Fits.{IsPlaced, Order, Tree}
use Rattle.service_laws.proofs.Trees.{other-created, name-free, same-itself, object-at, of_name}
use Rattle.service_laws.proofs.Finds.{find-push, find-last}
use Rattle.alloc_tree.proofs.Orders.{paths_total, paths_exact}

-- ---- equal paths

is_equal : (o : Ordering) → is_eq o ≡ true → Equal ≡ o
is_equal Less e = absurd (let h = e in cc)
is_equal Equal e = refl
is_equal Greater e = absurd (let h = e in cc)

pub equal_paths : (p q : Path) → eq_by_cmp path_cmp p q ≡ true → p ≡ q
equal_paths p q e = paths_exact p q (sym (is_equal (path_cmp p q) e))

own_order : (o : Ordering) → o ≡ ordering_reverse o → is_eq o ≡ true
own_order Less e = absurd (let h = e in cc)
own_order Equal e = refl
own_order Greater e = absurd (let h = e in cc)

pub other_paths : (p q : Path) → eq_by_cmp path_cmp p q ≡ false → p ≡ q → ⊥
other_paths p q e is =
    let own : eq_by_cmp path_cmp p q ≡ true = ap (λ x. eq_by_cmp path_cmp p x) (sym is) ∙ own_order (path_cmp p p) (paths_total.antisymm p p) in
    let no : true ≡ false = sym own ∙ e in cc

-- ---- a new object

abbrev made_known : Object → LiveObject
made_known o = record { object = o; attributes = [] }

own-name : (o : Object) → of_name o.name o.directory (made_known o) ≡ true
own-name o = (λ i. eq-eqb o.directory o.directory refl i && same-itself o.name i)

abbrev found_object : LiveObject → Found
found_object o = FoundObject o.object.number

abbrev found_directory : Directory → Found
found_directory d = FoundDirectory d.number

module _ (c : Content) (r : Order c) (t : Tree c) (o : Object) (placed : IsPlaced c o) where
  -- at its own path it stands
  own-created : (p : Path) → placed.path ≡ p → object_at (apply_seen (Creates o) c) p ≡ Some (made_known o)
  own-created [] e = absurd (let none : directory_at c [] ≡ None = ap (directory_at c) (sym e) ∙ placed.at_free.directory in let no = sym none ∙ t.0 in cc)
  own-created (n ∷ ns) e =
      object-at (apply_seen (Creates o) c) n ns o.directory (ap (parent_number c) (sym e) ∙ placed.number)
      ∙ ap (λ name. object_in (apply_seen (Creates o) c) name o.directory) (ap last_name (sym e) ∙ sym placed.name)
      ∙ find-last (of_name o.name o.directory) c.objects (made_known o) (name-free c t o placed)
      ∙ ap (λ b. cond b (Some (made_known o)) None) (own-name o)

  -- elsewhere what stood
  kept-created : (p : Path) (x : LiveObject) → object_at c p ≡ Some x → object_at (apply_seen (Creates o) c) p ≡ Some x
  kept-created [] x e = e
  kept-created (n ∷ ns) x e = by (parent_number c (n ∷ ns)) e
    where
      by : (k : Option ℕ) → option_and_then (object_in c (last_name (n ∷ ns))) k ≡ Some x → option_and_then (object_in (apply_seen (Creates o) c) (last_name (n ∷ ns))) k ≡ Some x
      by None e = e
      by (Some k) e = find-push (of_name (last_name (n ∷ ns)) k) c.objects (made_known o) x e

  elsewhere-created : (p : Path) → (p ≡ placed.path → ⊥) → object_at (apply_seen (Creates o) c) p ≡ object_at c p
  elsewhere-created p other = by (object_at c p) refl
    where
      by : (k : Option LiveObject) → object_at c p ≡ k → object_at (apply_seen (Creates o) c) p ≡ object_at c p
      by None e = other-created c r t o placed p other e ∙ sym e
      by (Some x) e = kept-created p x e ∙ sym e

  pub at-created : (p : Path) → at (apply_seen (Creates o) c) p ≡ cond (eq_by_cmp path_cmp p placed.path) (Some (FoundObject o.number)) (at c p)
  at-created p = by (eq_by_cmp path_cmp p placed.path) refl
    where
      by : (b : Bool) → eq_by_cmp path_cmp p placed.path ≡ b → at (apply_seen (Creates o) c) p ≡ cond b (Some (FoundObject o.number)) (at c p)
      by true e =
          let is : p ≡ placed.path = equal_paths p placed.path e in
          (λ i. option_or (option_map found_directory ((ap (directory_at c) is ∙ placed.at_free.directory) i)) (option_map found_object (own-created p (sym is) i)))
      by false e = ap (λ x. option_or (option_map found_directory (directory_at c p)) (option_map found_object x)) (elsewhere-created p (other_paths p placed.path e))
