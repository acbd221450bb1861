use Rattle.image_laws.proofs.Proved.{just-images}
use Rattle.image_laws.proofs.laws.just_images_are_read.Goals as goal

pub returns : goal.returns
returns c = just-images
