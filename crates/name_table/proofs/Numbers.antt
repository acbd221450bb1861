-- The objects of a directory, by its number.
use Rattle.std.proofs.Common.{◌≡◌, ℕ, Bool, true, false, cond, eqb, eqb-true, List, [], ◌∷◌, map, length, Option, Some, None, IfSome, refl, ap, sym, subst, ◌∙◌, arith}
use Rattle.std.specs.Prelude.{filter, is_some}
use Rattle.std.specs.Option.{option_map_or}
use Rattle.std.specs.List.{AllByRecursion, filter_map}
use Rattle.pps_types.specs.declared.found.Found.{Found}
use Rattle.pps_types.specs.Bytes.{is_empty}
use Rattle.pps_types.specs.Names.{Name, Path, Map, name_cmp, sorted_by, members_of, objects_in, directories_in}
use Rattle.pps_types.specs.Content.{Directory, LiveObject, Content, directory_at, members, subdirectories}
use Rattle.pps_types.specs.WellFormed.{directory_numbered}
use Rattle.service_laws.proofs.Fits.{Order, Tree, order-in, tree-in}
use Rattle.service_laws.proofs.Finds.{all-imp, all-find, find-true}
use Rattle.number_table.specs.Numbered.{Entry, value_under}
use Rattle.number_table.proofs.Told.{find_told}
use Rattle.name_table.specs.Standing.{Placed, standing_by, content_of}
use Rattle.name_table.specs.Agrees.{IsNamed}
use Rattle.name_table.specs.Listed.{object_number, objects_at, IsBare}
use Rattle.name_table.proofs.Listed.{members_are, numbers_are, objects_counted, directories_counted}

filter_none : {X : Type 0} (test : X → Bool) (xs : List X) → AllByRecursion (λ x. test x ≡ false) xs → filter test xs ≡ []
filter_none test [] all = refl
filter_none test (x ∷ xs) all = ap (λ b. cond b (x ∷ filter test xs) (filter test xs)) all.0 ∙ filter_none test xs all.1

-- a directory that does not stand has none
no_members : (c : Content) → Tree c → (n : ℕ) → directory_numbered c n ≡ None → members c n ≡ []
no_members c t n none = ap (sorted_by name_cmp (λ (o : LiveObject). o.object.name)) (filter_none (λ (o : LiveObject). eqb o.object.directory n) c.objects (all-imp (λ (o : LiveObject). is_some (directory_numbered c o.object.directory) ≡ true) (λ (o : LiveObject). eqb o.object.directory n ≡ false) each c.objects t.5))
  where
    each : (o : LiveObject) → is_some (directory_numbered c o.object.directory) ≡ true → eqb o.object.directory n ≡ false
    each o stands = go (eqb o.object.directory n) refl
      where
        go : (b : Bool) → eqb o.object.directory n ≡ b → b ≡ false
        go false e = refl
        go true e = absurd (let no : true ≡ false = sym stands ∙ ap (λ k. is_some (directory_numbered c k)) (eqb-true o.object.directory n e) ∙ ap is_some none in cc)

no_length : {X : Type 0} (xs : List X) → length xs ≡ 0 → xs ≡ []
no_length [] e = refl
no_length (x ∷ xs) e = absurd (omega (arith, e))

not_root : (p : Path) → (length p ≡ 0 → ⊥) → is_empty p ≡ false
not_root [] h = absurd (h refl)
not_root (n ∷ ns) h = refl

module _ (m : Map) (es : List (Entry Placed)) (k : ℕ) (ds : List (Entry Directory)) (j : ℕ) (named : IsNamed m es k ds j) (n : ℕ) where
  abbrev old : Content
  old = content_of (standing_by es k ds j)

  abbrev old_order : Order old
  old_order = order-in old named.order

  abbrev old_tree : Tree old
  old_tree = tree-in old named.tree

  pub none_of : value_under n ds ≡ None → [] ≡ map (λ (o : LiveObject). o.object.number) (members old n)
  none_of none = ap (map (λ (o : LiveObject). o.object.number)) (sym (no_members old old_tree n (sym (find_told (λ (d : Directory). d.number) n ds named.directories_told) ∙ none)))

  pub none_bare : value_under n ds ≡ None → IfSome (directory_numbered old n) (λ d. IsBare old d)
  none_bare none = subst (λ o. IfSome o (λ d. IsBare old d)) (sym (sym (find_told (λ (d : Directory). d.number) n ds named.directories_told) ∙ none)) tt

  module _ (d : Directory) (found : value_under n ds ≡ Some d) where
    numbered : directory_numbered old n ≡ Some d
    numbered = sym (find_told (λ (d : Directory). d.number) n ds named.directories_told) ∙ found

    own_path : directory_at old d.path ≡ Some d
    own_path = all-find (λ (d : Directory). directory_at old d.path ≡ Some d) (λ (d : Directory). eqb d.number n) old.directories d old_tree.2 numbered

    own_number : d.number ≡ n
    own_number = eqb-true d.number n (find-true (λ (d : Directory). eqb d.number n) old.directories d numbered)

    pub numbers_of : filter_map (λ (m : Name × Found). object_number m.1) (members_of m d.path) ≡ map (λ (o : LiveObject). o.object.number) (members old n)
    numbers_of =
        ap (filter_map (λ (m : Name × Found). object_number m.1)) (members_are old old_order old_tree d.path m named.names)
        ∙ numbers_are old old_order old_tree d.path
        ∙ ap (λ (o : Option Directory). map (λ (o : LiveObject). o.object.number) (option_map_or (λ (d : Directory). members old d.number) o [])) own_path
        ∙ ap (λ k. map (λ (o : LiveObject). o.object.number) (members old k)) own_number

    -- ---- whether nothing stands in it

    members_is : objects_at old d.path ≡ members old d.number
    members_is = ap (λ (o : Option Directory). option_map_or (λ (d : Directory). members old d.number) o []) own_path

    objects_count : objects_in m d.path ≡ length (members old d.number)
    objects_count = objects_counted old old_order old_tree d.path m named.names ∙ ap length members_is

    directories_count : directories_in m d.path ≡ length (subdirectories old d.path)
    directories_count = directories_counted old old_order old_tree d.path m named.names

    pub bare_by : (length d.path ≡ 0 → ⊥) → objects_in m d.path ≡ 0 → directories_in m d.path ≡ 0 → IfSome (directory_numbered old n) (λ d. IsBare old d)
    bare_by below objects directories = subst (λ o. IfSome o (λ d. IsBare old d)) (sym numbered) (record {
      no_objects = no_length (members old d.number) (sym objects_count ∙ objects);
      no_directories = no_length (subdirectories old d.path) (sym directories_count ∙ directories);
      below_root = not_root d.path below;
    })

    is_bare : IfSome (directory_numbered old n) (λ d. IsBare old d) → IsBare old d
    is_bare bare = subst (λ o. IfSome o (λ d. IsBare old d)) numbered bare

    pub bare_path : IfSome (directory_numbered old n) (λ d. IsBare old d) → length d.path ≡ 0 → ⊥
    bare_path bare zero = let no : true ≡ false = sym (ap is_empty (no_length d.path zero)) ∙ (is_bare bare).below_root in cc

    pub bare_objects : IfSome (directory_numbered old n) (λ d. IsBare old d) → objects_in m d.path ≡ 0
    bare_objects bare = objects_count ∙ ap length (is_bare bare).no_objects

    pub bare_directories : IfSome (directory_numbered old n) (λ d. IsBare old d) → directories_in m d.path ≡ 0
    bare_directories bare = directories_count ∙ ap length (is_bare bare).no_directories
