-- Names whose objects are copies.
use Rattle.std.proofs.Common.{◌≡◌, ℕ, List, [], ◌∷◌, map, Some, refl, ap, sym, subst, ◌∙◌}
use Rattle.std.specs.Prelude.{find, option_map}
use Rattle.std.specs.List.{AllByRecursion, AllZip}
use Rattle.pps_types.specs.Bytes.{is_empty}
use Rattle.pps_types.specs.Names.{Map, last_name, parent, same_path}
use Rattle.pps_types.specs.Content.{Directory, LiveObject, Content, at, parent_number}
use Rattle.pps_types.specs.WellFormed.{AreInOrder, AreTree}
use Rattle.number_table.specs.Numbered.{Entry, AllTell, IsCloneEntry}
use Rattle.name_table.specs.Standing.{Placed, IsCopy, standing_by, content_of, standing_in}
use Rattle.name_table.specs.Agrees.{IsNamed, HasPath}
use Rattle.name_table.proofs.Happened.{knowns}

abbrev AreCopies : List (Entry Placed) → List (Entry Placed) → Type 0
AreCopies es fs = AllZip (IsCloneEntry IsCopy) es fs

-- copies are known as the same
pub copied_knowns : (es fs : List (Entry Placed)) → AllZip (IsCloneEntry IsCopy) es fs → knowns fs ≡ knowns es
copied_knowns [] [] z = refl
copied_knowns [] (f ∷ fs) z = absurd z
copied_knowns (e ∷ es) [] z = absurd z
copied_knowns (e ∷ es) (f ∷ fs) z = λ i. z.0.1.known i ∷ copied_knowns es fs z.1 i

copied_told : (es fs : List (Entry Placed)) → AreCopies es fs → AllTell (λ (x : Placed). x.object.number) es → AllTell (λ (x : Placed). x.object.number) fs
copied_told [] [] z told = tt
copied_told [] (f ∷ fs) z told = absurd z
copied_told (e ∷ es) [] z told = absurd z
copied_told (e ∷ es) (f ∷ fs) z told = (ap (λ (o : LiveObject). o.object.number) z.0.1.known ∙ told.0 ∙ sym z.0.0, copied_told es fs z.1 told.1)

copied_path : (c : Content) (x y : Placed) → IsCopy x y → HasPath c x → HasPath c y
copied_path c x y is h = record {
  above = ap (parent_number c) is.path ∙ h.above ∙ ap (λ (o : LiveObject). Some o.object.directory) (sym is.known);
  name = ap (λ (o : LiveObject). o.object.name) is.known ∙ h.name ∙ ap last_name (sym is.path);
  below_root = ap is_empty is.path ∙ h.below_root;
}

-- paths lead through directories alone
copied_paths : (c d : Content) → d.directories ≡ c.directories → (es fs : List (Entry Placed)) → AreCopies es fs → AllByRecursion (λ (e : Entry Placed). HasPath c e.value) es → AllByRecursion (λ (e : Entry Placed). HasPath d e.value) fs
copied_paths c d same [] [] z all = tt
copied_paths c d same [] (f ∷ fs) z all = absurd z
copied_paths c d same (e ∷ es) [] z all = absurd z
copied_paths c d same (e ∷ es) (f ∷ fs) z all = (moved (copied_path c e.value f.value z.0.1 all.0), copied_paths c d same es fs z.1 all.1)
  where
    moved : HasPath c f.value → HasPath d f.value
    moved h = record { above = ap (λ ds. option_map (λ (d : Directory). d.number) (find (λ (d : Directory). same_path d.path (parent f.value.path)) ds)) same ∙ h.above; name = h.name; below_root = h.below_root }

module _ (m n : Map) (es fs : List (Entry Placed)) (k l : ℕ) (ds gs : List (Entry Directory)) (j i : ℕ) (named : IsNamed m es k ds j)
    (same : n ≡ m) (copies : AllZip (IsCloneEntry IsCopy) es fs) (next : l ≡ k) (directories : gs ≡ ds) (next_directory : i ≡ j) where
  abbrev with_objects : List LiveObject → Content
  with_objects objects = content_of (record { objects = objects; next_object = k; directories = map (λ (e : Entry Directory). e.value) ds; next_directory = j })

  objects_are : knowns es ≡ knowns fs
  objects_are = sym (copied_knowns es fs copies)

  pub copied_named : IsNamed n fs l gs i
  copied_named = rw (same, next, directories, next_directory) (record {
    order = subst (λ objects. AreInOrder (with_objects objects)) objects_are named.order;
    tree = subst (λ objects. AreTree (with_objects objects)) objects_are named.tree;
    paths = copied_paths (with_objects (knowns es)) (with_objects (knowns fs)) refl es fs copies named.paths;
    names = λ p. named.names p ∙ ap (λ objects. at (with_objects objects) p) objects_are;
    objects_told = copied_told es fs copies named.objects_told;
    directories_told = named.directories_told;
  })

  pub copied_standing : standing_by fs l gs i ≡ standing_by es k ds j
  copied_standing = rw (next, directories, next_directory) (ap (λ objects. standing_in (with_objects objects)) (sym objects_are))
