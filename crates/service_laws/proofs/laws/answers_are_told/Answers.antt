use Rattle.service_laws.proofs.PlainWords.{answer-shown}
use Rattle.service_laws.proofs.laws.answers_are_told.Goals as goal

pub returns : goal.returns
returns c = answer-shown
