use Rattle.service_laws.proofs.BasicLaws.{refusals-keep}
use Rattle.service_laws.proofs.laws.refusals_keep.Goals as goal

pub returns : goal.returns
returns c = refusals-keep
