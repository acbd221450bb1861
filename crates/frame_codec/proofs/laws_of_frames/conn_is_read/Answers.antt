use Rattle.frame_codec.proofs.FrameEvents as laws
use Rattle.frame_codec.proofs.laws_of_frames.conn_is_read.Goals as goal

pub returns : goal.returns
returns c = laws.conn_again
