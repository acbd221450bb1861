use Rattle.frame_codec.proofs.FrameEvents as laws
use Rattle.frame_codec.proofs.laws_of_frames.read_bytes_are_the_body.Goals as goal

pub returns : goal.returns
returns c = laws.event_takes
