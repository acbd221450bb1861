-- The text of a directory's listing.
use Rattle.std.specs.Prelude.{◌≡◌, ℕ, List, [], ◌∷◌, ◌++◌, Bool, true, false, if◌then◌else◌, codes, map}
use Rattle.std.specs.List.{concat}
use Rattle.std.specs.Option.{option_map_or}
use Rattle.pps_types.specs.Names.{Path, last_name, name_cmp, sorted_by}
use Rattle.pps_types.specs.Content.{Content, directory_at, members, subdirectories}
use Rattle.pps_types.specs.Plan as planning

-- what stands behind the name
abbrev pub suffix : Bool → List ℕ
suffix is_directory = if is_directory then codes "/" else []

-- a name with what stands behind it, and a line feed
abbrev pub print_entry : List ℕ × List ℕ → List ℕ
print_entry e = e.0 ++ e.1 ++ (10 ∷ [])

abbrev pub print_listing : List (List ℕ × List ℕ) → List ℕ
print_listing entries = concat (map (λ e. e.0 ++ e.1 ++ (10 ∷ [])) entries)

-- what a listing of that path has: the names of the objects and of the directories directly there, in byte order
abbrev pub entries_at : Content → Path → List (List ℕ × List ℕ)
entries_at c path =
    sorted_by name_cmp (λ e. e.0)
    (map (λ o. (o.object.name, suffix false)) (option_map_or (λ d. members c d.number) (directory_at c path) []) ++ map (λ d. (last_name d.path, suffix true)) (subdirectories c path))

-- a listing is the text of these
abbrev pub ListingsAreTold : Type 0
ListingsAreTold = (c : Content) (path : Path) → planning.listing c path ≡ print_listing (entries_at c path)
