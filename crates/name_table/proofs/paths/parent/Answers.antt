use Rattle.std.proofs.Common.{sym, ap, ◌∙◌}
use Rattle.pps_types.specs.Names as names
use Rattle.service_laws.proofs.PathEnds.{parent-push}
use Rattle.name_table.proofs.paths.parent.Goals as goal

pub returns-in-Some : goal.returns-in-Some
returns-in-Some c = sym (ap names.parent c.in-Some.ensures.cases.0 ∙ parent-push _ _)
