-- Tables may be sent to threads, and threads may share them: the names that they hold may be.
use denote.Param.Send.{IsSend, IsSync, sendable}
use Rattle.name_table.proofs.Sends.{names_send, names_sync}
use Rattle.open_handles.proofs.handles.Handles.TheSendSync as handles
use Rattle.notify_box.proofs.connections.Connections.TheSendSync as connections
use Rattle.service_state.specs.contracts.tables.Tables as tables

pub tables_send : IsSend tables.the_row
tables_send = search (names_send, handles.the_send, connections.the_send, sendable) depth 60 fits 20000

pub tables_sync : IsSync tables.the_row
tables_sync = search (names_sync, handles.the_sync, connections.the_sync, sendable) depth 60 fits 20000
