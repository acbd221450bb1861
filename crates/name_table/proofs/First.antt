-- The root alone.
use Rattle.std.proofs.Common.{◌≡◌, ℕ, [], ◌∷◌, Option, Some, None, refl, ap, sym, ◌∙◌, arith}
use Rattle.std.specs.Prelude.{option_and_then, option_map}
use Rattle.std.specs.FinMap.{get, empty, get-insert, get-empty}
use Rattle.pps_types.specs.declared.found.Found.TheVariants.{Object as FoundObject, Directory as FoundDirectory}
use Rattle.pps_types.specs.Names.{Name, Path, path_cmp, last_name}
use Rattle.pps_types.specs.Content.{Directory, LiveObject, at, parent_number, object_in}
use Rattle.alloc_tree.specs.Held.{root_alone}
use Rattle.alloc_tree.proofs.Orders.{paths_total}
use Rattle.number_table.specs.Numbered.{Entry}
use Rattle.name_table.specs.Standing.{content_of, first_standing}
use Rattle.name_table.specs.Agrees.{IsNamed}

abbrev root_entry : Entry Directory
root_entry = record { number = 0; value = record { number = 0; path = [] } }

no_object : (o : Option ℕ) (n : Name) → option_and_then (λ k. object_in (content_of first_standing) n k) o ≡ None
no_object None n = refl
no_object (Some k) n = refl

root_found : (p : Path) → get root_alone p ≡ at (content_of first_standing) p
root_found [] = get-insert paths_total empty [] (FoundDirectory 0) []
root_found (n ∷ ns) = get-insert paths_total empty [] (FoundDirectory 0) (n ∷ ns) ∙ get-empty path_cmp (n ∷ ns) ∙ sym (ap (option_map (λ (o : LiveObject). FoundObject o.object.number)) (no_object (parent_number (content_of first_standing) (n ∷ ns)) (last_name (n ∷ ns))))

pub first : IsNamed root_alone [] 0 (root_entry ∷ []) 1
first = record {
  order = record { handles_rise = omega arith; objects_rise = omega arith; directories_rise = (omega arith, omega arith); connections_rise = omega arith };
  tree = record { root = refl; parents = (refl, tt); paths = (refl, tt); free = (refl, tt); names = tt; places = tt };
  paths = tt;
  names = root_found;
  objects_told = tt;
  directories_told = (refl, tt);
}
