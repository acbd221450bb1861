use Rattle.pps_types.proofs.Sames.{record_decides}
use Rattle.server_queue.proofs.same.same_record.Goals as goal

pub returns : goal.returns
returns c = rw c.eq.ensures (record_decides _ _)
