use Rattle.std.proofs.Common.{refl}
use Rattle.std.specs.Fmt.{digits}
use Rattle.pps_types.specs.Machine.{machine}
use Rattle.worked_rows.proofs.images.images_are_started.Goals as goal

pub returns : goal.returns
unfolding digits machine
returns c = record { newer = refl; older = refl; bytes_older = refl; beside = refl; again = refl; limit = refl }
