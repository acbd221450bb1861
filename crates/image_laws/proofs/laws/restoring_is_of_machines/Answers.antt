use Rattle.image_laws.proofs.Unused.{directory-machine, object-machine, line-machine}
use Rattle.image_laws.proofs.laws.restoring_is_of_machines.Goals as goal

pub returns : goal.returns
returns c = record { directory = directory-machine; object = object-machine; line = line-machine }
