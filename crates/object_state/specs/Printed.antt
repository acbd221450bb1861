-- What is printed of the map that keeps an object's attributes.
use Rattle.std.specs.Prelude.{ℕ, List, Some}
use Rattle.object_state.specs.Kept.{Kept}
use Rattle.pps_types.specs.Filter.{Part}
use Rattle.pps_types.specs.History.{line_of}
use Rattle.pps_types.specs.Text.{print_line}
use Rattle.pps_types.specs.AttributeContent.{Content}
use Rattle.object_state.specs.Entries.{attribute_of, attributes_in}
use Rattle.object_state.specs.Held.{print_matching}

-- the printed line of the attribute of that name and content
abbrev pub print_entry : List ℕ → Content → List ℕ
print_entry name content = print_line (line_of (attribute_of (name, content)))

-- the printed lines of those that the filter matches
abbrev pub print_filtered : List Part → Kept → List ℕ
print_filtered parts m = print_matching (Some parts) (attributes_in m)
