use Rattle.service_laws.proofs.ImageStarts.{images-start}
use Rattle.service_laws.proofs.laws.images_start.Goals as goal

pub returns : goal.returns
returns c = images-start
