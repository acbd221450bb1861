-- Lines of an object as they are printed for all handles that have no filter, and the text that a record is labelled with.
use Rattle.std.specs.Prelude.{ℕ, ◌+◌, ◌-◌, List, [], ◌∷◌, Option, Some, None, option_map, unwrap_or, length, take, drop}
use Rattle.std.specs.Option.{option_map_or}
use Rattle.pps_types.specs.declared.line.Line.{Line}
use Rattle.pps_types.specs.declared.record.Kind.{Kind}
use Rattle.pps_types.specs.declared.record.Kind.TheVariants.{Change}
use Rattle.pps_types.specs.Reading.{matching_lines, print_shown}
use Rattle.pps_types.specs.Text.{print_lines}

-- the printing of lines of the object of that name, where there are any; no other record has one
abbrev pub printed_text : List ℕ → Kind → Option (List ℕ)
printed_text name (Change lines) = option_map (λ s. print_shown name (Some s)) (matching_lines None lines)
printed_text name kind = None

-- what a record of an object of that name is labelled with: its printing, if it has lines of the object, else the name
abbrev pub label : List ℕ → Kind → List ℕ
label name kind = unwrap_or (printed_text name kind) name

-- the lines of the object that a record has, if it has some
abbrev pub object_lines : Kind → Option (List Line)
object_lines (Change (line ∷ lines)) = Some (line ∷ lines)
object_lines kind = None

-- the name that is in a label: between the sign and the line feed of its header, or the label itself
abbrev pub name_in : List ℕ → Kind → List ℕ
name_in text kind = option_map_or (λ lines. take (length text - (length (print_lines lines) + 2)) (drop 1 text)) (object_lines kind) text
