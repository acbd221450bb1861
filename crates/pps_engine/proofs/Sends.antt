-- Engines may be sent to threads, and threads may share one: the tables that they hold may be, and what is ready.
use denote.Param.Send.{IsSend, IsSync, sendable}
use denote.Param.SendFields.{declared_send, declared_sync, as_row_send, as_row_sync}
use Rattle.std.proofs.Crossing.{crosses}
use Rattle.std.specs.contracts.snapshot.Snapshot as snapshot
use Rattle.pps_types.specs.contracts.outcome.Outcome as outcome
use Rattle.service_state.proofs.Sends.{tables_send, tables_sync}
use Rattle.pps_engine.proofs.planned.Pending.TheSendSync as pending
use Rattle.pps_engine.specs.contracts.engine.Engine as engine
use Rattle.pps_engine.specs.contracts.engine.Ready as ready

-- what only clauses read owns nothing
reply_send : IsSend (snapshot.the_row outcome.the_row)
reply_send = search crosses

reply_sync : IsSync (snapshot.the_row outcome.the_row)
reply_sync = search crosses

ready_send : IsSend ready.the_row
ready_send = declared_send ready.the_type (pending.the_send, (as_row_send (snapshot.the_field outcome.the_row) reply_send, tt))

ready_sync : IsSync ready.the_row
ready_sync = declared_sync ready.the_type (pending.the_sync, (as_row_sync (snapshot.the_field outcome.the_row) reply_sync, tt))

pub engine_send : IsSend engine.the_row
engine_send = search (tables_send, ready_send, crosses, sendable) depth 60 fits 20000

pub engine_sync : IsSync engine.the_row
engine_sync = search (tables_sync, ready_sync, crosses, sendable) depth 60 fits 20000
