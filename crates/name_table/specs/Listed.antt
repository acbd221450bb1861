-- What stands directly in a directory.
use Rattle.std.specs.Prelude.{◌≡◌, ℕ, List, [], ◌++◌, Bool, true, false, if◌then◌else◌, Option, Some, None, IfSome, option_and_then, codes, map}
use Rattle.std.specs.Option.{option_map_or}
use Rattle.std.specs.List.{filter_map}
use Rattle.pps_types.specs.declared.found.Found.{Found}
use Rattle.pps_types.specs.declared.found.Found.TheVariants.{Object as FoundObject, Directory as FoundDirectory}
use Rattle.pps_types.specs.declared.refusal.Refusal.{Refusal}
use Rattle.pps_types.specs.Bytes.{is_empty}
use Rattle.pps_types.specs.Names.{Name, Path, last_name, name_cmp, sorted_by, is_directory}
use Rattle.pps_types.specs.Content.{Directory, LiveObject, Content, directory_at, object_numbered, members, subdirectories}
use Rattle.pps_types.specs.Checks.{first_refusal, list_checks}
use Rattle.name_table.specs.Standing.{Standing, Named, content_of, named_content, directory_in}

-- an object's name, and where it leads to
abbrev pub object_member : LiveObject → Name × Found
object_member o = (o.object.name, FoundObject o.object.number)

-- a directory's last name, and where it leads to
abbrev pub directory_member : Directory → Name × Found
directory_member d = (last_name d.path, FoundDirectory d.number)

-- the objects of the directory at a path, in byte order of names: none where no directory is
abbrev pub objects_at : Content → Path → List LiveObject
objects_at c path = option_map_or (λ d. members c d.number) (directory_at c path) []

-- the objects and the directories of the directory at a path, in byte order of names
abbrev pub members_at : Content → Path → List (Name × Found)
members_at c path = sorted_by name_cmp (λ m. m.0) (map object_member (objects_at c path) ++ map directory_member (subdirectories c path))

-- nothing stands in the directory, and it is not the root
pub record IsBare (c : Content) (d : Directory) : Type 0 where
  pub no_objects : members c d.number ≡ []
  pub no_directories : subdirectories c d.path ≡ []
  pub below_root : is_empty d.path ≡ false

-- why a path is not listed
abbrev pub listing_refusal : Path → Named → Option Refusal
listing_refusal path n = first_refusal (list_checks (named_content n) path)

-- nothing is in the directory of that number, and it is not the root
abbrev pub IsBareIn : ℕ → Named → Type 0
IsBareIn number n = IfSome (directory_in number n) (λ d. IsBare (named_content n) d)

-- the numbers of the objects of a directory, in byte order of names
abbrev pub member_numbers : ℕ → Named → List ℕ
member_numbers directory n = map (λ o. o.object.number) (members (named_content n) directory)

-- the number of an object, where that is what stands there
abbrev pub object_number : Found → Option ℕ
object_number (FoundObject number) = Some number
object_number (FoundDirectory number) = None

-- the numbers of the objects among these
abbrev pub object_numbers : List (Name × Found) → List ℕ
object_numbers ms = filter_map (λ m. object_number m.1) ms

-- the objects among these, each in its place, and none where a directory is
abbrev pub objects_among : Standing → List (Name × Found) → List (Option LiveObject)
objects_among s ms = map (λ m. option_and_then (object_numbered (content_of s)) (object_number m.1)) ms

-- ---- in a listing

-- what stands behind the name
abbrev pub suffix : Bool → List ℕ
suffix is_directory = if is_directory then codes "/" else []

-- what a listing of that path has: the names of the objects and of the directories directly there, in byte order
abbrev pub entries_at : Content → Path → List (List ℕ × List ℕ)
entries_at c path =
    sorted_by name_cmp (λ e. e.0)
    (map (λ o. (o.object.name, suffix false)) (option_map_or (λ d. members c d.number) (directory_at c path) []) ++ map (λ d. (last_name d.path, suffix true)) (subdirectories c path))

-- a listing has what stands directly at the path
abbrev pub MembersAreListed : Type 0
MembersAreListed = (c : Content) (path : Path) → map (λ m. (m.0, suffix (is_directory m.1))) (members_at c path) ≡ entries_at c path
