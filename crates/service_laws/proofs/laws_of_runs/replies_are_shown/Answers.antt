use Rattle.service_laws.proofs.RunJoins.{replies-shown}
use Rattle.service_laws.proofs.laws_of_runs.replies_are_shown.Goals as goal

pub returns : goal.returns
returns c = replies-shown
