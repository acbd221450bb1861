use Rattle.image_laws.proofs.Unused.{directory-stays, object-stays, line-stays}
use Rattle.image_laws.proofs.laws.restoring_stays.Goals as goal

pub returns : goal.returns
returns c = record { directory = directory-stays; object = object-stays; line = line-stays }
