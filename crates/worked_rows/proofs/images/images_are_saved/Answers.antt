use Rattle.std.proofs.Common.{refl}
use Rattle.std.specs.Fmt.{digits}
use Rattle.pps_types.specs.Machine.{machine}
use Rattle.worked_rows.proofs.images.images_are_saved.Goals as goal

pub returns : goal.returns
unfolding digits machine
returns c = record { image_of = refl; bytes = refl; beside = refl; bytes_beside = refl; empty = refl; bytes_empty = refl }
