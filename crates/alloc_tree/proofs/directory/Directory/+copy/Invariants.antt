use Rattle.std.proofs.Common.{◌≡◌, map, take}
use Rattle.alloc_tree.proofs.Keys.{key}
use Rattle.alloc_tree.proofs.directory.Directory.+copy.Given as goal

abbrev pub invariant-loop-entry : goal.invariant-loop-entry
invariant-loop-entry g l = map key l.entries.items ≡ map key (take l.entry-index l.entry-items)

abbrev pub decreases-copy : goal.decreases-copy
decreases-copy g l = l.self.now.depth
