use Rattle.server_queue.proofs.Columns.{blocks_are}
use Rattle.server_queue.proofs.queue.Queue.read_plan.Goals as goal

pub returns-clause-blocks : goal.returns-clause-blocks
returns-clause-blocks c h is = blocks_are h _ is
