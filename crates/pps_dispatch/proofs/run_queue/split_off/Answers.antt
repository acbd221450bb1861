use Rattle.pps_dispatch.proofs.Turns.{forks}
use Rattle.pps_dispatch.proofs.run_queue.split_off.Goals as goal

pub another-requires-clause-rule : goal.another-requires-clause-rule
another-requires-clause-rule g c = forks _ _ _
