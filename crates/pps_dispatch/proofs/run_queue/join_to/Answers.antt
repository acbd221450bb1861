use Rattle.pps_dispatch.proofs.Turns.{merges}
use Rattle.pps_dispatch.proofs.run_queue.join_to.Goals as goal

pub absorb-requires-clause-rule : goal.absorb-requires-clause-rule
absorb-requires-clause-rule g c = merges _ _ _ _ _
