use Rattle.service_laws.proofs.BasicLaws.{steps-decided}
use Rattle.service_laws.proofs.laws.steps_are_decided.Goals as goal

pub returns : goal.returns
returns c = steps-decided
