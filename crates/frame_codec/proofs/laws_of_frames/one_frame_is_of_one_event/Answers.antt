use Rattle.frame_codec.proofs.FrameStreams as laws
use Rattle.frame_codec.proofs.laws_of_frames.one_frame_is_of_one_event.Goals as goal

pub returns : goal.returns
returns c = laws.same_frame
