use Rattle.image_laws.proofs.Proved.{read-printable}
use Rattle.image_laws.proofs.laws.read_images_are_printable.Goals as goal

pub returns : goal.returns
returns c = read-printable
