use Rattle.service_laws.proofs.PlainWords.{kept-same}
use Rattle.service_laws.proofs.laws.kept_is_told.Goals as goal

pub returns : goal.returns
returns c = kept-same
