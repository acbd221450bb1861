-- Trees may be sent to threads, and threads may share one.
--
-- Of each type that holds no tree the check finds this by itself. A tree leads back to itself, so it is said here.
use denote.Param.Send.{IsSend, IsSync, sendable}
use Rattle.std.proofs.Crossing.{crosses}
use Rattle.std.specs.contracts.alloc.Global as global
use Rattle.std.specs.contracts.impls.GlobalAllocator.TheImpl.{ghosts}
use Rattle.alloc_tree.proofs.directory.Directory.TheLaws.TheKnot as knot
use Rattle.alloc_tree.specs.contracts.tree.Tree as tree

pub tree_send : IsSend (tree.the_row global.the_row ghosts)
tree_send = search (crosses, knot.crosses, sendable) depth 60 fits 20000

pub tree_sync : IsSync (tree.the_row global.the_row ghosts)
tree_sync = search (crosses, knot.crosses, sendable) depth 60 fits 20000
