use Rattle.service_laws.proofs.Law.{step-shown, after-shown}
use Rattle.service_laws.proofs.laws.steps_are_shown.Goals as goal

pub returns : goal.returns
returns c = record { event = step-shown; events = λ m made es. after-shown es m made }
