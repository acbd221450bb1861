-- The lines of an image of version 2, as they are printed. Own.
use Rattle.std.specs.Prelude.{ℕ, List, ◌++◌, codes}
use Rattle.std.specs.Fmt.{decimal}
use Rattle.pps_types.specs.Text.{print_line}
use Rattle.pps_types.specs.Names.{Path}
use Rattle.pps_types.specs.Image.{text_line, print_path, as_line}

-- the first line, with the default limit
abbrev pub print_beginning : ℕ → List ℕ
print_beginning default_limit = text_line (codes "PPSIMAGE 2 " ++ decimal default_limit)

-- the line of a directory
abbrev pub print_directory : Path → List ℕ
print_directory path = text_line (codes "D " ++ print_path path)

-- the line of an object of which so many attributes follow
abbrev pub print_object : Path → ℕ → List ℕ
print_object path count = text_line (codes "O " ++ print_path path ++ codes " " ++ decimal count)

-- the line of an attribute
abbrev pub print_set : (name enc value : List ℕ) → List ℕ
print_set name enc value = print_line (as_line (record { name = name; enc = enc; value = value }))

-- the last line, after so many entries
abbrev pub print_end : ℕ → List ℕ
print_end count = text_line (codes "E " ++ decimal count)
