-- Names may be sent to threads, and threads may share them: the tree that they hold may be.
use denote.Param.Send.{IsSend, IsSync, sendable}
use Rattle.alloc_tree.proofs.Sends.{tree_send, tree_sync}
use Rattle.number_table.proofs.table.Table.TheSendSync as table
use Rattle.name_table.proofs.named.NamedObject.TheSendSync as object
use Rattle.name_table.proofs.named.NamedDirectory.TheSendSync as directory
use Rattle.name_table.specs.contracts.names.Names as names

pub names_send : IsSend names.the_row
names_send = search (tree_send, table.the_send, object.the_send, directory.the_send, sendable) depth 60 fits 20000

pub names_sync : IsSync names.the_row
names_sync = search (tree_sync, table.the_sync, object.the_sync, directory.the_sync, sendable) depth 60 fits 20000
