-- A block as it is printed for an object.
use Rattle.std.specs.Prelude.{ℕ, List, ◌++◌, Some}
use Rattle.pps_types.specs.Reading.{Shown, print_shown}
use Rattle.pps_types.specs.Text.{print_header}

-- its header for the object of that name
abbrev pub header_for : List ℕ → Shown → List ℕ
header_for name block = print_header block.mark (name ++ block.suffix)

-- its text for the object of that name: the header and the lines
abbrev pub printed_for : List ℕ → Shown → List ℕ
printed_for name block = print_shown name (Some block)
