use Rattle.pps_dispatch.proofs.Turns.{pushes, learns}
use Rattle.pps_dispatch.proofs.run_queue.put_in.Goals as goal

pub push_as-put-requires-clause-rule : goal.push_as-put-requires-clause-rule
push_as-put-requires-clause-rule g c = (pushes _ _ _ _ _ c.requires.held.0 c.requires.held.1, learns _ _ _)
