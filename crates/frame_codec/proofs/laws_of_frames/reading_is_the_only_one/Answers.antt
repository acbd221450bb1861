use Rattle.frame_codec.proofs.FrameStreams as laws
use Rattle.frame_codec.proofs.laws_of_frames.reading_is_the_only_one.Goals as goal

pub returns : goal.returns
returns c = laws.only_reading
