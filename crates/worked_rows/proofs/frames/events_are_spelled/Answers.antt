use Rattle.std.proofs.Common.{refl}
use Rattle.pps_types.specs.Frame.{frame_reading}
use Rattle.worked_rows.proofs.frames.events_are_spelled.Goals as goal

pub returns : goal.returns
unfolding frame_reading
returns c = refl
