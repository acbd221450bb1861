-- What an object holds: its attributes, and the memory for lines that were made ready.
use Rattle.std.specs.Prelude.{◌≡◌, ℕ, List, Option, filter, map}
use Rattle.std.specs.Borrow.{Bor}
use Rattle.std.specs.Option.{option_copied}
use Rattle.pps_types.specs.declared.line.Line.{Line}
use Rattle.pps_types.specs.Filter.{Part, matches}
use Rattle.pps_types.specs.History.{Attribute, line_of}
use Rattle.pps_types.specs.Text.{print_lines}
use Rattle.object_state.specs.Limits.{after_lines, CanTake}
use Rattle.object_state.specs.Short.{copies_for}

-- room: for so many more attributes there is memory
-- copies: of the lines that were made ready, if some of their texts are too long to be copied without memory
pub record Held : Type 0 where
  pub attributes : List Attribute
  pub room : ℕ
  pub copies : Option (List Line)

-- these lines can be applied without memory, and keep within the limits
pub record IsReadyFor (lines : List Line) (object : Held) : Type 0 where
  pub takes : CanTake object.attributes object.room lines
  pub copies : object.copies ≡ copies_for lines

-- the printed lines of the attributes that match
abbrev pub print_matching : Option (List Part) → List Attribute → List ℕ
print_matching wanted attributes = print_lines (filter (matches wanted) (map line_of attributes))

-- the printed lines of all attributes
abbrev pub print_all : List Attribute → List ℕ
print_all attributes = print_lines (map line_of attributes)

-- ---- of an object

-- the printed lines of its attributes that match the filter that is lent
abbrev pub matching_text : Option (Bor (List Part)) → Held → List ℕ
matching_text lent object = print_matching (option_copied lent) object.attributes

-- each of these lines has taken effect, one after the other
abbrev pub AppliesLines : List Line → Held → Held → Type 0
AppliesLines lines old new = new.attributes ≡ after_lines old.attributes lines
