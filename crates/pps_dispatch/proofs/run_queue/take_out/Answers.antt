use Rattle.pps_dispatch.proofs.Turns.{pops}
use Rattle.pps_dispatch.proofs.run_queue.take_out.Goals as goal

pub pop_as-requires-clause-rule : goal.pop_as-requires-clause-rule
pop_as-requires-clause-rule g c = (pops _ _ _, λ _ _ _ _. tt)
