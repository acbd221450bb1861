use Rattle.image_laws.proofs.Proved.{saving-stays}
use Rattle.image_laws.proofs.laws.saving_stays.Goals as goal

pub returns : goal.returns
returns c = saving-stays
