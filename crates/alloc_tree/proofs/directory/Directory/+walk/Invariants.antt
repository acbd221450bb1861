use Rattle.std.proofs.Common.{◌≡◌, ◌++◌, take}
use Rattle.alloc_tree.specs.Walk.{names, beyond_path}
use Rattle.alloc_tree.specs.View.{flatten, standing}
use Rattle.alloc_tree.proofs.directory.Directory.+walk.Given as goal

abbrev pub invariant-loop-entry : goal.invariant-loop-entry
invariant-loop-entry g l = l.walked.items ≡ l.initial.walked.items ++ beyond_path (names l.path) (flatten standing (take l.entry-index l.entry-items))

abbrev pub decreases-walk : goal.decreases-walk
decreases-walk g l = l.self.now.depth
