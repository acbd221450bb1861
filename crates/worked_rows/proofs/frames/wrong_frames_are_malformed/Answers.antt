use Rattle.std.proofs.Common.{refl}
use Rattle.pps_types.specs.Frame.{frame_reading}
use Rattle.worked_rows.proofs.frames.wrong_frames_are_malformed.Goals as goal

pub returns : goal.returns
unfolding frame_reading
returns c = refl
