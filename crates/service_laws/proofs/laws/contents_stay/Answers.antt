use Rattle.service_laws.proofs.Law.{start-content, after-content}
use Rattle.service_laws.proofs.WellSteps.{step-content}
use Rattle.service_laws.proofs.ImageStarts.{started-content}
use Rattle.service_laws.proofs.laws.contents_stay.Goals as goal

pub returns : goal.returns
returns c = record { stands = λ m made. made.standing; begins = start-content; images = started-content; stays = λ c well e. step-content c e well; ends = λ c well es. after-content es c well }
