-- What is found at a path, over the tables.
use Rattle.std.specs.Prelude.{◌≡◌, ℕ, Option, Result, Ok, option_map}
use Rattle.pps_types.specs.declared.found.Found.{Found}
use Rattle.pps_types.specs.declared.found.Found.TheVariants.{Directory as FoundDirectory}
use Rattle.pps_types.specs.declared.refusal.Refusal.{Refusal}
use Rattle.pps_types.specs.Names.{Path, parent, place, find_at}
use Rattle.pps_types.specs.Content.{Directory, at, directory_at}
use Rattle.service_state.specs.Tables.{Tabled, content_in}

-- the object or directory at a path, if one is there
abbrev pub found_in : Tabled → Path → Option Found
found_in t path = at (content_in t) path

-- the same where the path leads to a place, and else why it leads to none
abbrev pub place_in : Tabled → Path → Result (Option Found) Refusal
place_in t path = place (at (content_in t)) path

-- the object or directory at a path, or why none is found
abbrev pub find_in : Tabled → Path → Result Found Refusal
find_in t path = find_at (at (content_in t)) path

-- the number of the directory at a path, if one is there
abbrev pub directory_number_in : Tabled → Path → Option ℕ
directory_number_in t path = option_map (λ (d : Directory). d.number) (directory_at (content_in t) path)

-- the directory of that number is the one above the path
abbrev pub IsAboveIn : Tabled → ℕ → Path → Type 0
IsAboveIn t directory path = find_at (at (content_in t)) (parent path) ≡ Ok (FoundDirectory directory)
