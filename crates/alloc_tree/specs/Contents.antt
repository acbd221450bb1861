-- What a directory is seen as.
use Rattle.std.specs.Prelude.{ℕ, List, [], ◌∷◌, Bool, true, false, ◌⊎◌, refl, Option}
use Rattle.std.proofs.Common.{inl, inr}
use Rattle.std.specs.FinMap.{code, entries}
use Rattle.std.specs.FinMap.Entries.{where_key}
use Rattle.std.specs.Coded.{Coded, code_by, coded×, coded⊎, coded_ℕ, coded_list}
use Rattle.pps_types.specs.declared.found.Found.{Found}
use Rattle.pps_types.specs.declared.found.Found.TheVariants.{Object, Directory}
use Rattle.pps_types.specs.Names.{Name, Path, Map, path_cmp, members_in}
use Rattle.alloc_tree.specs.Path.{Changes}

pub record Contents : Type 0 where
  -- the directory's number
  pub id : ℕ
  -- what stands below it, by the path from here
  pub below : Map
  -- for how many more entries each directory has room, this one first
  pub rooms : List (Path × ℕ)
  -- how many levels of directories there are
  pub depth : ℕ

abbrev pub is_below : Path → Bool
is_below [] = false
is_below (n ∷ p) = true

-- the directory itself and what stands below it, a path before what is below that, and names in byte order
unfoldable pub whole : Contents → List (Path × Found)
whole c = ([], Directory c.id) ∷ where_key path_cmp is_below (entries c.below)

-- what is directly in the directory at a path, in byte order of names
abbrev pub members_at : Path → Contents → List (Name × Found)
members_at path c = members_in path (whole c)

-- at the path the new contents have this, and elsewhere what the old ones have
abbrev pub ChangesAt : (old new : Contents) → Path → Option Found → Type 0
ChangesAt old new path found = Changes (whole old) (whole new) path found

-- ---- codes

abbrev pub found_parts : Found → ℕ ⊎ ℕ
found_parts (Object id) = inl id
found_parts (Directory id) = inr id

abbrev pub found_from : ℕ ⊎ ℕ → Found
found_from (inl n) = Object n
found_from (inr n) = Directory n

abbrev pub coded_found : Coded Found
coded_found = code_by (ℕ ⊎ ℕ) (coded⊎ coded_ℕ coded_ℕ) found_parts found_from (elim [ Object id ↦ refl | Directory id ↦ refl ])

abbrev pub coded_path : Coded Path
coded_path = coded_list (coded_list coded_ℕ)

abbrev pub coded_member : Coded (Name × Found)
coded_member = coded× (coded_list coded_ℕ) coded_found

abbrev pub coded_standing : Coded (Path × Found)
coded_standing = coded× coded_path coded_found

abbrev pub coded_map : Coded Map
coded_map = code {R = path_cmp} coded_path coded_found

abbrev pub coded_contents : Coded Contents
coded_contents =
    code_by (ℕ × (Map × (List (Path × ℕ) × ℕ))) (coded× coded_ℕ (coded× coded_map (coded× (coded_list (coded× coded_path coded_ℕ)) coded_ℕ)))
    (λ c. (c.id, (c.below, (c.rooms, c.depth)))) (λ p. record { id = p.0; below = p.1.0; rooms = p.1.1.0; depth = p.1.1.1 }) (λ _. refl)
