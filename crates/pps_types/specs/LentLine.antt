-- A line that is lent, as a line. Own.
use Rattle.pps_types.specs.declared.held_line.LineRef.{LineRef}
use Rattle.pps_types.specs.declared.held_line.LineRef.TheVariants.{Set as LentSet, Del as LentDel}
use Rattle.pps_types.specs.declared.line.Line.{Line}
use Rattle.pps_types.specs.declared.line.Line.TheVariants.{Set, Del}

abbrev pub lent_line : LineRef → Line
lent_line (LentSet name content) = Set name.now content.enc content.value content.n
lent_line (LentDel name) = Del name.now
