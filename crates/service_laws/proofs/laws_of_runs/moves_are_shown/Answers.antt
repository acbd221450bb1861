use Rattle.service_laws.proofs.Between.{moves-shown}
use Rattle.service_laws.proofs.laws_of_runs.moves_are_shown.Goals as goal

pub returns : goal.returns
returns c = moves-shown
