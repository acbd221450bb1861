use Rattle.std.proofs.Common.{◌≡◌, map, take}
use Rattle.alloc_tree.proofs.Keys.{key}
use Rattle.alloc_tree.proofs.directory.Directory.+same.Given as goal

abbrev pub invariant-loop-i : goal.invariant-loop-i
invariant-loop-i g l = map key (take l.i l.entry-items) ≡ map key (take l.i l.other-inside.entries.items)

abbrev pub decreases-same : goal.decreases-same
decreases-same g l = l.self.now.depth
