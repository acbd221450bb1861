-- Lines whose texts are short, so that copies of their parts take no memory.
use Rattle.std.specs.Prelude.{◌≡◌, Bool, ◌&&◌, ◌++◌, codes, Box, List, Vec, Option, None, Some, if◌then◌else◌, option_map}
use Rattle.std.specs.List.{list_all}
use Rattle.pps_types.specs.HeldBytes.{is_short}
use Rattle.pps_types.specs.declared.line.Line.{Line}
use Rattle.pps_types.specs.declared.line.Line.TheVariants.{Set, Del}

-- an encoding and a value are kept in one text
abbrev pub is_short_line : Line → Bool
is_short_line (Set name enc value n) = is_short name && is_short (enc ++ codes ":" ++ value)
is_short_line (Del name) = is_short name

abbrev pub are_short : List Line → Bool
are_short lines = list_all is_short_line lines

-- the copies that are held of lines, so that these can be applied without memory: none of short lines
abbrev pub copies_for : List Line → Option (List Line)
copies_for lines = if are_short lines then None else Some lines

-- these are the copies that are held of the lines
abbrev pub AreCopiesFor : {A B : Type 0} → List Line → Option (Box (Vec Line A) B) → Type 0
AreCopiesFor lines copies = option_map (λ v. v.value.items) copies ≡ copies_for lines
