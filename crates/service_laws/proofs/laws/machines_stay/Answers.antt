use Rattle.service_laws.proofs.Law.{start-made, step-made, marked-made, end-made}
use Rattle.service_laws.proofs.laws.machines_stay.Goals as goal

pub returns : goal.returns
returns c = record { begins = start-made; stays = step-made; marked = marked-made; ends = λ m made answered. end-made answered m made }
