use Rattle.frame_codec.proofs.FrameStreams as laws
use Rattle.frame_codec.proofs.laws_of_frames.stream_is_read.Goals as goal

pub returns : goal.returns
returns c = laws.stream_is_read
