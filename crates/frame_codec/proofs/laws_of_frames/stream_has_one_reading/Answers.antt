use Rattle.frame_codec.proofs.FrameStreams as laws
use Rattle.frame_codec.proofs.laws_of_frames.stream_has_one_reading.Goals as goal

pub returns : goal.returns
returns c = laws.one_reading
