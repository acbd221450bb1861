-- The lines of a record, wherever they are. Own.
use Rattle.std.specs.Prelude.{List, [], ◌∷◌}
use Rattle.pps_types.specs.declared.line.Line.{Line}
use Rattle.pps_types.specs.declared.line.Placed.{Placed}
use Rattle.pps_types.specs.declared.line.Placed.TheVariants.{One, Many}

abbrev pub placed_lines : Placed → List Line
placed_lines (One line) = line ∷ []
placed_lines (Many lines) = lines.items
