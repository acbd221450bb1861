use Rattle.service_laws.proofs.Between.{plans-lawful}
use Rattle.service_laws.proofs.laws_of_runs.plans_are_lawful.Goals as goal

pub returns : goal.returns
returns c = plans-lawful
