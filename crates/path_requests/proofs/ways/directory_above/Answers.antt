use Rattle.std.specs.Prelude.{Result, Ok}
use Rattle.std.proofs.Common.{sym, ap, ◌∙◌}
use Rattle.pps_types.specs.declared.found.Found.{Found}
use Rattle.pps_types.specs.declared.refusal.Refusal.{Refusal}
use Rattle.pps_types.specs.Names as paths
use Rattle.service_state.specs.Tables.{content_in}
use Rattle.path_requests.proofs.Deciding.{find_told, above_found}
use Rattle.path_requests.proofs.ways.directory_above.Goals as goal

pub unreachable-requires : goal.unreachable-requires
unreachable-requires c =
    let a = above_found (content_in c.args.tables.now) c.requires.content c.args.path.now c.requires.place c.find.result
    (find_told c.questions_are_told.ensures c.args.tables.now c.names.result.now c.parent.result.now (paths.parent c.args.path.now) c.find.result c.find.ensures c.names.ensures c.parent.ensures) in
    let no = sym a.1 ∙ c.in_default.is in cc

pub unreachable-requires-in-Object : goal.unreachable-requires-in-Object
unreachable-requires-in-Object c =
    let a = above_found (content_in c.args.tables.now) c.requires.content c.args.path.now c.requires.place c.find.result
    (find_told c.questions_are_told.ensures c.args.tables.now c.names.result.now c.parent.result.now (paths.parent c.args.path.now) c.find.result c.find.ensures c.names.ensures c.parent.ensures) in
    let no = sym a.1 ∙ c.in-Ok.is ∙ ap (λ (f : Found). let r : Result Found Refusal = Ok f in r) c.in-Object.is in cc
