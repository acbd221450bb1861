use Rattle.frame_codec.proofs.FrameEvents as laws
use Rattle.frame_codec.proofs.laws_of_frames.event_is_read_again.Goals as goal

pub returns : goal.returns
returns c = laws.event_again
