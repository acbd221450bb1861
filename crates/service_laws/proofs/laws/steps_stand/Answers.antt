use Rattle.service_laws.proofs.StandsLaw.{steps-stand, runs-stand}
use Rattle.service_laws.proofs.laws.steps_stand.Goals as goal

pub returns : goal.returns
returns c = record { event = steps-stand; events = λ old answered new. runs-stand answered old new }
