use Rattle.crossbeam_queue.specs.Passes.{IsPassOf}
use Rattle.pps_dispatch.proofs.work.all_worked.Given as goal

abbrev pub invariant-loop-worked : goal.invariant-loop-worked
invariant-loop-worked g l = IsPassOf l.queue l.pass
