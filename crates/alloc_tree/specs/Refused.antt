-- Why a change of what stands at paths is refused, where `es` is what stands.
use Rattle.std.specs.Prelude.{ℕ, List, Bool, not, nat_le, count_by, if◌then◌else◌, Option, Some, None, Ok, Err}
use Rattle.std.specs.Option.{option_or}
use Rattle.pps_types.specs.Bytes.{is_empty, ◌>>=◌}
use Rattle.pps_types.specs.declared.found.Found.{Found}
use Rattle.pps_types.specs.declared.found.Found.TheVariants.{Object as FoundObject}
use Rattle.pps_types.specs.declared.refusal.Refusal.{Refusal}
use Rattle.pps_types.specs.declared.refusal.Refusal.TheVariants.{IsDirectory, NotDirectory, NotEmpty, Busy, TableFull}
use Rattle.pps_types.specs.Names.{Path, parent, is_object, is_directory, find_at, new_refusal, refusal_of, refused_if, members_in}
use Rattle.alloc_tree.specs.Path.{at}
use Rattle.alloc_tree.specs.declared.kind.NodeKind.{NodeKind}
use Rattle.alloc_tree.specs.declared.kind.NodeKind.TheVariants.{Object, Directory}
use Rattle.alloc_tree.specs.declared.edit.Edit.{Edit}
use Rattle.alloc_tree.specs.declared.edit.Edit.TheVariants.{RemovesObject, ReplacesObject, RemovesDirectory}

abbrev pub is_of : NodeKind → Found → Bool
is_of Object found = is_object found
is_of Directory found = is_directory found

-- how many of a kind stand directly in p
abbrev pub count_in : NodeKind → List (Path × Found) → Path → ℕ
count_in kind es p = count_by (λ m. is_of kind m.1) (members_in p es)

-- a name of that kind is added
abbrev pub new_refused : NodeKind → List (Path × Found) → Path → Option Refusal
new_refused kind es path = option_or (new_refusal (at es) path) (refused_if (nat_le 256 (count_in kind es (parent path))) TableFull)

-- an object is wanted there
abbrev pub object_refused : List (Path × Found) → Path → Option Refusal
object_refused es path = refusal_of (find_at (at es) path >>= (λ found. if is_object found then Ok found else Err IsDirectory))

-- a directory is wanted there
abbrev pub list_refused : List (Path × Found) → Path → Option Refusal
list_refused es path = refusal_of (find_at (at es) path >>= (λ found. if is_object found then Err NotDirectory else Ok found))

-- an empty directory other than the root is wanted there
abbrev pub rmdir_refused : List (Path × Found) → Path → Option Refusal
rmdir_refused es path =
    option_or (refused_if (is_empty path) Busy)
    (option_or (list_refused es path)
    (refused_if (not (is_empty (members_in path es))) NotEmpty))

abbrev pub edit_refused : Edit → List (Path × Found) → Path → Option Refusal
edit_refused RemovesObject es path = object_refused es path
edit_refused (ReplacesObject id) es path = object_refused es path
edit_refused RemovesDirectory es path = rmdir_refused es path

-- what stands at the path after the change
abbrev pub left_by : Edit → Option Found
left_by RemovesObject = None
left_by (ReplacesObject id) = Some (FoundObject id)
left_by RemovesDirectory = None

-- the root is a directory, and stays
abbrev pub root_refusal : Edit → Refusal
root_refusal RemovesObject = IsDirectory
root_refusal (ReplacesObject id) = IsDirectory
root_refusal RemovesDirectory = Busy
