use Rattle.std.proofs.Common.{◌≡◌, ◌-◌}
use Rattle.crossbeam_queue.specs.Passes.{view, IsPassOf, IsSamePass}
use Rattle.pps_dispatch.specs.RunQueue.{numbers_from}
use Rattle.pps_dispatch.proofs.run_queue.fill.Given as goal

abbrev pub invariant-loop-number : goal.invariant-loop-number
invariant-loop-number g l = IsPassOf l.queue l.pass × IsSamePass l.fn.pass l.pass × (view l.pass ≡ numbers_from l.number (l.count - l.number))
