use Rattle.service_laws.proofs.RunJoins.{runs-join}
use Rattle.service_laws.proofs.laws_of_runs.runs_join.Goals as goal

pub returns : goal.returns
returns c = runs-join
