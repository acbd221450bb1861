-- What is found by a path.
use Rattle.std.proofs.Common.{◌≡◌, ℕ, [], ◌∷◌, ◌++◌, Option, Some, None, Result, Ok, Err, refl, ap, sym, ◌∙◌}
use Rattle.std.specs.Prelude.{option_map, ok_or}
use Rattle.std.specs.Option.{option_or}
use Rattle.std.specs.Result.{result_ok}
use Rattle.pps_types.specs.declared.found.Found.{Found}
use Rattle.pps_types.specs.declared.found.Found.TheVariants.{Object as FoundObject, Directory as FoundDirectory}
use Rattle.pps_types.specs.declared.refusal.Refusal.{Refusal}
use Rattle.pps_types.specs.Bytes.{◌>>=◌}
use Rattle.pps_types.specs.Names.{Name, Path, beyond, place, find_at, last_name, same_path}
use Rattle.pps_types.specs.Content.{Directory, LiveObject, Content, at, object_at, directory_at, object_numbered}
use Rattle.pps_types.specs.WellFormed.{directory_numbered}
use Rattle.service_laws.proofs.Fits.{Order, Tree}
use Rattle.service_laws.proofs.Trees.{of_name}
use Rattle.service_laws.proofs.Passes.{place-at, object-found}
use Rattle.service_laws.proofs.Rising.{found-each}
use Rattle.service_laws.proofs.Finds.{all-find}
use Rattle.name_table.proofs.Deleted.{find_found, at_closed, no_directory_at}

-- ---- a place, by what is found above it

abbrev pub onward : (Path → Option Found) → Path → Found → Result (Option Found) Refusal
onward at path found = beyond (Some found) (Ok (at path))

pub place_above : (at : Path → Option Found) (above : Path) (name : Name) → place at (above ++ name ∷ []) ≡ find_at at above >>= onward at (above ++ name ∷ [])
place_above at [] name = by (at [])
  where
    by : (o : Option Found) → beyond o (Ok (at (name ∷ []))) ≡ ok_or o Refusal.NotFound >>= onward at (name ∷ [])
    by None = refl
    by (Some found) = refl
place_above at (n ∷ ns) name = by (at []) (place_above (λ p. at (n ∷ p)) ns name)
  where
    by : (o : Option Found) → place (λ p. at (n ∷ p)) (ns ++ name ∷ []) ≡ find_at (λ p. at (n ∷ p)) ns >>= onward at (n ∷ ns ++ name ∷ [])
        → beyond o (place (λ p. at (n ∷ p)) (ns ++ name ∷ [])) ≡ (beyond o (place (λ p. at (n ∷ p)) ns) >>= (λ found. ok_or found Refusal.NotFound)) >>= onward at (n ∷ ns ++ name ∷ [])
    by None rest = refl
    by (Some (FoundObject number)) rest = refl
    by (Some (FoundDirectory number)) rest = rest

-- ---- what stands at a path

module _ (c : Content) (r : Order c) (t : Tree c) (p : Path) where
  -- it is what is found there, if anything is
  pub found_there : result_ok (find_at (at c) p) ≡ at c p
  found_there = by (at c p) refl
    where
      none : (r : Result (Option Found) Refusal) → place (at c) p ≡ r → at c p ≡ None → result_ok (r >>= (λ found. ok_or found Refusal.NotFound)) ≡ None
      none (Err refusal) e free = refl
      none (Ok None) e free = refl
      none (Ok (Some found)) e free = absurd (let no : Some found ≡ None = sym (place-at (at c) p (Some found) e) ∙ free in cc)

      by : (o : Option Found) → at c p ≡ o → result_ok (find_at (at c) p) ≡ at c p
      by None e = none (place (at c) p) refl e ∙ sym e
      by (Some found) e = ap result_ok (find_found (at c) (at_closed c t) p found e) ∙ sym e

  abbrev object_of : Option Found → Option LiveObject
  object_of None = None
  object_of (Some (FoundObject number)) = object_numbered c number
  object_of (Some (FoundDirectory number)) = None

  abbrev directory_of : Option Found → Option Directory
  directory_of None = None
  directory_of (Some (FoundObject number)) = None
  directory_of (Some (FoundDirectory number)) = directory_numbered c number

  abbrev told : Option Directory → Option LiveObject → Option Found
  told d o = option_or (option_map (λ (d : Directory). FoundDirectory d.number) d) (option_map (λ (o : LiveObject). FoundObject o.object.number) o)

  -- the object is the one of the number that stands there
  object_by : object_at c p ≡ object_of (at c p)
  object_by = go (directory_at c p) refl (object_at c p) refl
    where
      go : (d : Option Directory) → directory_at c p ≡ d → (o : Option LiveObject) → object_at c p ≡ o → object_at c p ≡ object_of (told d o)
      go None e None f = f
      go (Some d) e None f = f
      go (Some d) e (Some x) f = absurd (let no : Some d ≡ None = sym e ∙ no_directory_at c t p x f in cc)
      go None e (Some x) f =
          let a = object-found c p x f in
          f ∙ sym (all-find (λ (y : LiveObject). object_numbered c y.object.number ≡ Some y) (of_name (last_name p) a.0) c.objects x (found-each (λ (o : LiveObject). o.object.number) 0 c.next_object c.objects r.1) a.2)

  -- so is the directory
  directory_by : directory_at c p ≡ directory_of (at c p)
  directory_by = go (directory_at c p) refl (object_at c p)
    where
      go : (d : Option Directory) → directory_at c p ≡ d → (o : Option LiveObject) → directory_at c p ≡ directory_of (told d o)
      go None e None = e
      go None e (Some x) = e
      go (Some d) e o = e ∙ sym (all-find (λ (d : Directory). directory_numbered c d.number ≡ Some d) (λ (d : Directory). same_path d.path p) c.directories d (found-each (λ (d : Directory). d.number) 0 c.next_directory c.directories r.2) e)

  pub object_found : (number : ℕ) → at c p ≡ Some (FoundObject number) → object_numbered c number ≡ object_at c p
  object_found number e = sym (object_by ∙ ap object_of e)

  pub no_object : (o : Option Found) → at c p ≡ o → ((number : ℕ) → o ≡ Some (FoundObject number) → ⊥) → object_at c p ≡ None
  no_object None e other = object_by ∙ ap object_of e
  no_object (Some (FoundObject number)) e other = absurd (other number refl)
  no_object (Some (FoundDirectory number)) e other = object_by ∙ ap object_of e

  pub directory_found : (number : ℕ) → at c p ≡ Some (FoundDirectory number) → directory_numbered c number ≡ directory_at c p
  directory_found number e = sym (directory_by ∙ ap directory_of e)

  pub no_directory : (o : Option Found) → at c p ≡ o → ((number : ℕ) → o ≡ Some (FoundDirectory number) → ⊥) → directory_at c p ≡ None
  no_directory None e other = directory_by ∙ ap directory_of e
  no_directory (Some (FoundObject number)) e other = directory_by ∙ ap directory_of e
  no_directory (Some (FoundDirectory number)) e other = absurd (other number refl)
