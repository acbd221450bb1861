use Rattle.std.proofs.Common.{sym}
use Rattle.pps_engine.proofs.Runs.{runs-stand}
use Rattle.pps_lock.proofs.segment.Segment.replays.Goals as goal

pub returns-clause-runs : goal.returns-clause-runs
returns-clause-runs c = rw (sym c.self.view_is) (runs-stand _ _ _ c.self.invariant.seen)
