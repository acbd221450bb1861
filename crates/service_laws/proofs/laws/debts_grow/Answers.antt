use Rattle.service_laws.proofs.BasicLaws.{debts-grow}
use Rattle.service_laws.proofs.laws.debts_grow.Goals as goal

pub returns : goal.returns
returns c = debts-grow
