use Rattle.std.specs.Prelude.{refl}
use Rattle.std.specs.Fmt.{digits}
use Rattle.pps_types.specs.Machine.{machine}
use Rattle.worked_rows.proofs.scripts.private_traffic_beside_a_plain_object.Goals as goal

pub returns : goal.returns
unfolding digits machine
returns c = refl
