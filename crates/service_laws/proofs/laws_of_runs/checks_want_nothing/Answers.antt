use Rattle.service_laws.proofs.Refusals.{checks-want-nothing}
use Rattle.service_laws.proofs.laws_of_runs.checks_want_nothing.Goals as goal

pub returns : goal.returns
returns c = checks-want-nothing
