use Rattle.service_laws.proofs.SettledHandles.{settling-told}
use Rattle.service_laws.proofs.laws_of_reads.settling_is_told.Goals as goal

pub returns : goal.returns
returns c = settling-told
