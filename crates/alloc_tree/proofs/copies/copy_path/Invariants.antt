use Rattle.std.proofs.Common.{◌≡◌, take}
use Rattle.alloc_tree.specs.Walk.{names}
use Rattle.alloc_tree.proofs.copies.copy_path.Given as goal

abbrev pub invariant-loop-name : goal.invariant-loop-name
invariant-loop-name g l = names l.copy.items ≡ names (take l.name-index l.path)
