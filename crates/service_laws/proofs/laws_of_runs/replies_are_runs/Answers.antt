use Rattle.service_laws.proofs.RunJoins.{replies-runs}
use Rattle.service_laws.proofs.laws_of_runs.replies_are_runs.Goals as goal

pub returns : goal.returns
returns c = replies-runs
