use Rattle.frame_codec.proofs.FrameStreams as laws
use Rattle.frame_codec.proofs.laws_of_frames.no_frame_begins_another.Goals as goal

pub returns : goal.returns
returns c = laws.no_prefix
