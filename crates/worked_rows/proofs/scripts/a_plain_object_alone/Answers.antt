use Rattle.std.specs.Prelude.{refl}
use Rattle.std.specs.Fmt.{digits}
use Rattle.pps_types.specs.Machine.{machine}
use Rattle.worked_rows.proofs.scripts.a_plain_object_alone.Goals as goal

pub returns : goal.returns
unfolding digits machine
returns c = refl
