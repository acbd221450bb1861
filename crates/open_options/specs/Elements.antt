-- The elements of a path.
use Rattle.std.specs.Prelude.{ℕ, List, [], Bool, not, ◌&&◌, ◌==◌, Option, Some, None}
use Rattle.pps_types.specs.Bytes.{is_between, pieces}
use Rattle.pps_types.specs.Names.{Name}
use Rattle.pps_types.specs.OpenText.{OpenPath, open_path_of, before_all}

-- the elements of what stands behind a `/`, where there was one
abbrev pub elements_left : Option (List ℕ) → List Name
elements_left None = []
elements_left (Some rest) = pieces 47 rest

-- what elements say, the last of which may be `.all`
abbrev pub path_of : List Name → Option OpenPath
path_of elements = open_path_of elements (before_all elements)

-- visible, and not `?`
abbrev pub is_path_byte : ℕ → Bool
is_path_byte b = is_between 33 126 b && not (b == 63)

-- the same, and not `/`
abbrev pub is_name_byte : ℕ → Bool
is_name_byte b = is_between 33 126 b && not (b == 47) && not (b == 63)
