-- The map that a list of entries makes.
use Rattle.std.proofs.Common.{◌≡◌, cond, List, Some, None, Option, count_by, refl, ap, sym, ◌∙◌}
use Rattle.std.specs.Ordering.{eq_by_cmp}
use Rattle.std.specs.FinMap.{find, get, insert, remove, entries, from_entries, get-from_entries, get-insert, get-remove, same_map}
use Rattle.std.specs.Option.{option_or}
use Rattle.pps_types.specs.Bytes.{is_empty}
use Rattle.pps_types.specs.declared.found.Found.{Found}
use Rattle.pps_types.specs.declared.found.Found.TheVariants.{Object as FoundObject}
use Rattle.pps_types.specs.declared.refusal.Refusal.TheVariants.{Busy}
use Rattle.pps_types.specs.Names.{Name, Path, path_cmp, find_at, refused_if, new_refusal, parent, is_object, is_directory, members_in}
use Rattle.alloc_tree.specs.Path.{Changes, at}
use Rattle.alloc_tree.specs.Contents.{Contents, whole}
use Rattle.alloc_tree.specs.Refused.{new_refused, count_in, edit_refused, left_by}
use Rattle.alloc_tree.specs.Held.{new_of, edit_of, edited}
use Rattle.alloc_tree.specs.HeldView.{held}
use Rattle.alloc_tree.specs.declared.directory.Ready.{Ready}
use Rattle.alloc_tree.specs.declared.kind.NodeKind.{NodeKind}
use Rattle.alloc_tree.specs.declared.kind.NodeKind.TheVariants.{Object, Directory}
use Rattle.alloc_tree.specs.declared.edit.Edit.{Edit}
use Rattle.alloc_tree.specs.declared.edit.Edit.TheVariants.{RemovesObject, ReplacesObject, RemovesDirectory}
use Rattle.alloc_tree.proofs.News.{too_many}
use Rattle.alloc_tree.proofs.Refusals.{no_object, no_directory, not_empty}
use Rattle.alloc_tree.proofs.Ordered.{entries_made, ordered_whole}
use Rattle.alloc_tree.proofs.Orders.{paths_total, paths_exact}

module _ {X : Type 0} where
  pub get_is_find : (es : List (Path × X)) → get (from_entries {R = path_cmp} es) ≡ (λ q. find path_cmp q es)
  get_is_find es = λ i q. get-from_entries paths_total es q i

  pub map_inserted : (old new : List (Path × X)) (p : Path) (x : X) → Changes old new p (Some x) → from_entries {R = path_cmp} new ≡ insert (from_entries old) p x
  map_inserted old new p x h = same_map paths_total paths_exact _ _ (λ q.
      get-from_entries paths_total new q ∙ h q ∙ ap (cond (eq_by_cmp path_cmp q p) (Some x)) (sym (get-from_entries paths_total old q)) ∙ sym (get-insert paths_total (from_entries old) p x q))

  pub map_removed : (old new : List (Path × X)) (p : Path) → Changes old new p None → from_entries {R = path_cmp} new ≡ remove (from_entries old) p
  map_removed old new p h = same_map paths_total paths_exact _ _ (λ q.
      get-from_entries paths_total new q ∙ h q ∙ ap (cond (eq_by_cmp path_cmp q p) None) (sym (get-from_entries paths_total old q)) ∙ sym (get-remove paths_total (from_entries old) p q))

-- the map of a directory has what stands in it
pub entries_of : (c : Contents) → entries (from_entries {R = path_cmp} (whole c)) ≡ whole c
entries_of c = entries_made (whole c) (ordered_whole c)

-- what refuses a new name in the map is what refuses it in the directory
pub new_of_map : (kind : NodeKind) (c : Contents) (p : Path) → new_of kind (from_entries (whole c)) p ≡ new_refused kind (whole c) p
new_of_map Object c p = λ i. option_or (new_refusal (get_is_find (whole c) i) p) (too_many (count_by (λ (m : Name × Found). is_object m.1) (members_in (parent p) (entries_of c i))))
new_of_map Directory c p = λ i. option_or (new_refusal (get_is_find (whole c) i) p) (too_many (count_by (λ (m : Name × Found). is_directory m.1) (members_in (parent p) (entries_of c i))))

pub count_of_map : (kind : NodeKind) (c : Contents) (p : Path) → count_in kind (entries (from_entries {R = path_cmp} (whole c))) p ≡ count_in kind (whole c) p
count_of_map kind c p = ap (λ es. count_in kind es p) (entries_of c)

first_none : {X : Type 0} (a b : Option X) → option_or a b ≡ None → a ≡ None
first_none None b h = refl
first_none (Some x) b h = cc

pub free_in_map : (kind : NodeKind) (c : Contents) (p : Path) → new_of kind (from_entries (whole c)) p ≡ None → new_refusal (at (whole c)) p ≡ None
free_in_map kind c p h = first_none (new_refusal (at (whole c)) p) (too_many (count_in kind (whole c) (parent p))) (sym (new_of_map kind c p) ∙ h)

-- nothing is lost where the entries are the same
pub same_held : {A : Type 0} (c d : Contents) (ready : Option (Ready A)) → c ≡ d → held c ready ≡ held d ready
same_held c d ready e = ap (λ x. held x ready) e

-- what refuses a change in the map is what refuses it in the directory
pub edit_of_map : (edit : Edit) (c : Contents) (p : Path) → edit_of edit (from_entries (whole c)) p ≡ edit_refused edit (whole c) p
edit_of_map RemovesObject c p = ap (λ f. no_object (find_at f p)) (get_is_find (whole c))
edit_of_map (ReplacesObject id) c p = ap (λ f. no_object (find_at f p)) (get_is_find (whole c))
edit_of_map RemovesDirectory c p = λ i. option_or (refused_if (is_empty p) Busy) (option_or (no_directory (find_at (get_is_find (whole c) i) p)) (not_empty (members_in p (entries_of c i))))

pub map_edited : (edit : Edit) (old new : List (Path × Found)) (p : Path) → Changes old new p (left_by edit) → from_entries {R = path_cmp} new ≡ edited edit (from_entries old) p
map_edited RemovesObject old new p h = map_removed old new p h
map_edited (ReplacesObject id) old new p h = map_inserted old new p (FoundObject id) h
map_edited RemovesDirectory old new p h = map_removed old new p h
