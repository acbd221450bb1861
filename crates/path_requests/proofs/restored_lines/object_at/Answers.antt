use Rattle.std.specs.Prelude.{Result, Ok}
use Rattle.std.proofs.Common.{refl, ap, ◌∙◌}
use Rattle.pps_types.specs.declared.found.Found.{Found}
use Rattle.pps_types.specs.declared.refusal.Refusal.{Refusal}
use Rattle.service_state.specs.Tables.{content_in}
use Rattle.path_requests.proofs.Deciding.{find_told}
use Rattle.path_requests.proofs.LineChecks.{lost, directory_lost}
use Rattle.path_requests.proofs.restored_lines.object_at.Goals as goal

pub returns-in-Err-clause-err : goal.returns-in-Err-clause-err
returns-in-Err-clause-err c =
    lost (content_in c.args.tables.now) c.args.path.now c.in-Err.refusal
    (find_told c.questions_are_told.ensures c.args.tables.now c.names.result.now c.args.path.now c.args.path.now c.find.result c.find.ensures c.names.ensures refl ∙ c.in-Err.is)

pub returns-in-Directory-clause-err : goal.returns-in-Directory-clause-err
returns-in-Directory-clause-err c =
    directory_lost (content_in c.args.tables.now) c.args.path.now _
    (find_told c.questions_are_told.ensures c.args.tables.now c.names.result.now c.args.path.now c.args.path.now c.find.result c.find.ensures c.names.ensures refl ∙ c.in-Ok.is ∙ ap (λ (f : Found). let r : Result Found Refusal = Ok f in r) c.in-Directory.is)
