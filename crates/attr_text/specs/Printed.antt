-- What is printed, and whether there is room for it.
use Rattle.std.specs.Prelude.{◌≤◌, ◌+◌, ◌++◌, ℕ, Bool, List, length, Option, Vec, vec_len, vec_capacity, codes, decimal}
use Rattle.std.specs.Option.{option_to_list}
use Rattle.pps_types.specs.declared.line.Line.TheVariants.{Set}
use Rattle.pps_types.specs.AttributeContent.{Content}
use Rattle.pps_types.specs.Text.{print_line, print_header}

-- a line that sets an attribute
abbrev pub set_text : List ℕ → List ℕ → List ℕ → Bool → List ℕ
set_text name enc value n = print_line (Set name enc value n)

-- an attribute of that name
abbrev pub attribute_text : List ℕ → Content → List ℕ
attribute_text name content = set_text name content.enc content.value content.n

-- a header with its mark, if it has one
abbrev pub header_text : Option ℕ → List ℕ → List ℕ
header_text mark name = print_header (option_to_list mark) name

-- a header of a server's client: it names the object, and after a dot the client's number
abbrev pub client_header_text : Option ℕ → List ℕ → ℕ → List ℕ
client_header_text mark name client = print_header (option_to_list mark) (name ++ codes "." ++ decimal client)

-- these bytes can be pushed without taking memory
abbrev pub HasRoomFor : {A : Type 0} → Vec ℕ A → List ℕ → Type 0
HasRoomFor out bytes = vec_len out + length bytes ≤ vec_capacity out
