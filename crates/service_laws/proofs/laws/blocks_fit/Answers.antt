use Rattle.pps_types.proofs.Fitting.{fitting-longest}
use Rattle.service_laws.proofs.laws.blocks_fit.Goals as goal

pub returns : goal.returns
returns c = fitting-longest
