use Rattle.service_laws.proofs.RunJoins.{seen-runs-join}
use Rattle.service_laws.proofs.laws_of_runs.seen_runs_join.Goals as goal

pub returns : goal.returns
returns c = seen-runs-join
