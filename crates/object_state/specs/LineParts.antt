-- A line, by the parts that an object keeps.
use Rattle.pps_types.specs.declared.line.Line.{Line}
use Rattle.pps_types.specs.declared.line.Line.TheVariants.{Set, Del}
use Rattle.object_state.specs.declared.lines.Parts.{Parts}
use Rattle.object_state.specs.declared.lines.Parts.TheVariants.{Set as SetParts, Del as DelParts}

abbrev pub line_of_parts : Parts → Line
line_of_parts (SetParts name content) = Set name content.enc content.value content.n
line_of_parts (DelParts name) = Del name
