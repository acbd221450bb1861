-- What the names lend, pushed and sorted, is what an image saves.
use Rattle.std.proofs.Common.{◌≡◌, Bool, true, false, cond, not, eqb, List, [], ◌∷◌, ◌++◌, map, Option, Some, None, refl, sym, ap, subst, ◌∙◌}
use Rattle.std.specs.Prelude.{filter, find, option_map}
use Rattle.std.specs.List.{AllByRecursion}
use Rattle.std.specs.List.Sorted.{IsPermutation, IsSortedBy}
use Rattle.pps_types.specs.Bytes.{is_empty}
use Rattle.pps_types.specs.Names.{Path, same_path, parent, last_name, path_cmp}
use Rattle.pps_types.specs.History.{persistent}
use Rattle.pps_types.specs.Content.{Directory, Content, directory_at}
use Rattle.pps_types.specs.WellFormed.{IsContent, directory_numbered}
use Rattle.pps_types.specs.Image.{Saved, SavedDirectory, SavedObject, path_of, saved_line, directory_path, is_kept, saved_object, saved}
use Rattle.service_laws.proofs.Finds.{all-find, find-true}
use Rattle.service_laws.proofs.Rising.{found-each}
use Rattle.service_laws.proofs.Trees.{same_path-is}
use Rattle.image_laws.proofs.Sorting.{paths_total}
use Rattle.name_table.specs.Standing.{Placed, known_of, content_of, standing_in}
use Rattle.name_table.specs.Agrees.{HasPath}
use Rattle.image_laws.proofs.Places.{home-path, places}
use Rattle.pps_engine.specs.Entries.{saved_placed, saved_directories, saved_objects}
use Rattle.pps_engine.proofs.Apart.{both_distinct}
use Rattle.pps_engine.proofs.Unique.{ranks, sorted_unique}

path_ends : (p : Path) → is_empty p ≡ false → p ≡ parent p ++ last_name p ∷ []
path_ends [] some = absurd (let no = some in cc)
path_ends (n ∷ []) some = refl
path_ends (n ∷ m ∷ ns) some = ap (λ q. n ∷ q) (path_ends (m ∷ ns) refl)

module _ (c : Content) (w : IsContent c) where
  -- an object's path is that of its directory with its name behind it
  path_is : (x : Placed) → HasPath (content_of (standing_in c)) x → x.path ≡ directory_path c x.object.directory ++ x.object.name ∷ []
  path_is x h = by (directory_at c (parent x.path)) refl h.above
    where
      by : (o : Option Directory) → directory_at c (parent x.path) ≡ o → option_map (λ d. d.number) o ≡ Some x.object.directory → x.path ≡ directory_path c x.object.directory ++ x.object.name ∷ []
      by None e above = absurd (let no = above in cc)
      by (Some d) e above =
          let number : d.number ≡ x.object.directory = cc in
          let numbered : directory_numbered c d.number ≡ Some d = all-find (λ (y : Directory). find (λ z. eqb z.number y.number) c.directories ≡ Some y) (λ d. same_path d.path (parent x.path)) c.directories d
          (found-each (λ (d : Directory). d.number) 0 c.next_directory c.directories w.order.directories_rise) e in
          let home : directory_path c x.object.directory ≡ parent x.path = ap (directory_path c) (sym number) ∙ home-path c d.number d numbered ∙ same_path-is d.path (parent x.path) (find-true (λ (d : Directory). same_path d.path (parent x.path)) c.directories d e) in
          path_ends x.path h.below_root ∙ sym (λ i. home i ++ h.name i ∷ [])

  objects_saved : (xs : List Placed) → AllByRecursion (HasPath (content_of (standing_in c))) xs → saved_objects xs ≡ map (saved_object c) (filter is_kept (map known_of xs))
  objects_saved [] all = refl
  objects_saved (x ∷ xs) all = by (is_kept (known_of x)) (objects_saved xs all.1)
    where
      by : (b : Bool) → saved_objects xs ≡ map (saved_object c) (filter is_kept (map known_of xs))
          → map saved_placed (cond b (x ∷ filter (λ x. is_kept (known_of x)) xs) (filter (λ x. is_kept (known_of x)) xs)) ≡ map (saved_object c) (cond b (known_of x ∷ filter is_kept (map known_of xs)) (filter is_kept (map known_of xs)))
      by true rest = λ i. SavedObject (path_is x all.0 i) (map saved_line (persistent x.held.attributes)) ∷ rest i
      by false rest = rest

  pub entries_saved : (ds : List Directory) (xs : List Placed) (ys : List Saved) → ds ≡ c.directories → map known_of xs ≡ c.objects → AllByRecursion (HasPath (content_of (standing_in c))) xs
      → IsPermutation (saved_directories ds ++ saved_objects xs) ys → IsSortedBy (ranks path_cmp path_of paths_total) ys → ys ≡ saved c
  entries_saved ds xs ys directories objects paths moved up =
      let all : saved_directories ds ++ saved_objects xs ≡ saved_directories c.directories ++ map (saved_object c) (filter is_kept c.objects) =
      (λ i. saved_directories (directories i) ++ (objects_saved xs paths ∙ ap (λ os. map (saved_object c) (filter is_kept os)) objects) i) in
      sorted_unique path_cmp path_of paths_total (saved_directories c.directories ++ map (saved_object c) (filter is_kept c.objects)) ys
      (both_distinct (λ (d : Directory). SavedDirectory d.path) (λ d. not (is_empty d.path)) (saved_object c) is_kept c.directories c.objects (places c w).apart)
      (subst (λ es. IsPermutation es ys) all moved) up
