use Rattle.std.proofs.Common.{refl}
use Rattle.std.specs.Fmt.{digits}
use Rattle.worked_rows.proofs.images.wrong_images_are_told.Goals as goal

pub returns : goal.returns
unfolding digits
returns c = record { behind_the_end = refl; wrong_count = refl; out_of_order = refl; no_parent = refl; many_attributes = refl; repeated_name = refl; taken_name = refl; bracket = refl; deletion = refl; root = refl; leading_zero = refl; limit_of_zero = refl; later_version = refl; object_as_parent = refl }
