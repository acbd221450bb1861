use Rattle.service_laws.proofs.Merges.{merges-grow}
use Rattle.service_laws.proofs.laws_of_runs.merges_grow.Goals as goal

pub returns : goal.returns
returns c = merges-grow
