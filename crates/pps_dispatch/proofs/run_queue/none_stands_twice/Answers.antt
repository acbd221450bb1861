use Rattle.pps_dispatch.proofs.Turns.{none-twice}
use Rattle.pps_dispatch.proofs.run_queue.none_stands_twice.Goals as goal

pub returns : goal.returns
returns c = none-twice
