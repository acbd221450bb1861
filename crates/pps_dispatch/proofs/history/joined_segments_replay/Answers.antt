use Rattle.pps_dispatch.proofs.Replaying.{joins-replay}
use Rattle.pps_dispatch.proofs.history.joined_segments_replay.Goals as goal

pub returns : goal.returns
returns c = joins-replay
