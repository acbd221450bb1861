use Rattle.image_laws.proofs.Proved.{runs-again}
use Rattle.image_laws.proofs.laws.runs_are_read_again.Goals as goal

pub returns : goal.returns
returns c = runs-again
