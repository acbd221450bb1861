use Rattle.std.proofs.Common.{refl}
use Rattle.std.specs.Fmt.{digits}
use Rattle.worked_rows.proofs.images.beginnings_are_told.Goals as goal

pub returns : goal.returns
unfolding digits
returns c = record { first = refl; second = refl; third = refl; fourth = refl; newer = refl }
