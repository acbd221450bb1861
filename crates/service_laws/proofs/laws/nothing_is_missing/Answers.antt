use Rattle.service_laws.proofs.Missing.{nothing-missing}
use Rattle.service_laws.proofs.laws.nothing_is_missing.Goals as goal

pub returns : goal.returns
returns c = nothing-missing
