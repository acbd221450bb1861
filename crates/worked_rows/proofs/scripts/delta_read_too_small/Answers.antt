use Rattle.std.specs.Prelude.{refl}
use Rattle.std.specs.Fmt.{digits}
use Rattle.pps_types.specs.Machine.{machine}
use Rattle.worked_rows.proofs.scripts.delta_read_too_small.Goals as goal

pub returns : goal.returns
unfolding digits machine
returns c = refl
