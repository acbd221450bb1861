use Rattle.std.proofs.Common.{◌≤◌, ◌++◌, drop}
use Rattle.server_queue.specs.Blocks.{queue_blocks}
use Rattle.server_queue.proofs.Fits.{Runs}
use Rattle.server_queue.proofs.plan.plan_read.Given as goal

abbrev pub invariant-places : goal.invariant-places
invariant-places l = record {
  few : l.run.given.count ≤ l.place;
  runs : Runs l.max (queue_blocks (l.owed.items ++ l.extra)) (queue_blocks (drop l.place (l.owed.items ++ l.extra))) l.run;
}
