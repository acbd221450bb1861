use Rattle.std.proofs.Common.{sym, ap, ◌∙◌}
use Rattle.pps_types.specs.Names as names
use Rattle.service_laws.proofs.PathEnds.{last_name-push}
use Rattle.name_table.proofs.paths.last_name.Goals as goal

pub returns-in-Some : goal.returns-in-Some
returns-in-Some c = c.as_slice.ensures ∙ sym (ap names.last_name c.in-Some.ensures.cases.0 ∙ last_name-push c.in-Some.field-0-1.now _)
