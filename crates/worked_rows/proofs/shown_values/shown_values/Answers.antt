use Rattle.std.specs.Prelude.{refl}
use Rattle.base64.specs.Decode.{groups_error, groups_bytes, scan_steps}
use Rattle.worked_rows.proofs.shown_values.shown_values.Goals as goal

pub returns : goal.returns
unfolding groups_error groups_bytes scan_steps
returns c = (refl, refl, refl, refl, refl, refl, refl, refl, refl, refl, refl)
