use denote.Param.Send.{sendable}
use Rattle.std.proofs.Crossing.{crosses}
use Rattle.pps_lock.proofs.Sends.{shared_sync}
use Rattle.pps_dispatch.proofs.serving.serve_named.Goals as goal

pub pool-requires-sync-B : goal.pool-requires-sync-B
pool-requires-sync-B g c κs within = search (shared_sync, crosses, sendable) depth 60 fits 20000
