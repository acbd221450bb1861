use Rattle.std.proofs.Common.{Some, sym, ap, ◌∙◌}
use Rattle.service_state.specs.Tables.{content_in}
use Rattle.path_requests.proofs.Gone.{found_stands}
use Rattle.path_requests.proofs.unlinking.check_unlink.Goals as goal

pub check_found-requires : goal.check_found-requires
check_found-requires c = found_stands (content_in c.args.tables.now) c.args.path.now c.in-Ok.found (sym c.find.ensures ∙ c.in-Ok.is) ∙ ap Some (sym c.same.ensures)

pub returns-in-Ok-check_found-clause-found : goal.returns-in-Ok-check_found-clause-found
returns-in-Ok-check_found-clause-found c = found_stands (content_in c.args.tables.now) c.args.path.now c.in-Ok.found (sym c.find.ensures ∙ c.in-Ok.is)
