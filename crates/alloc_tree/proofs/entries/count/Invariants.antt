use Rattle.std.proofs.Common.{◌≡◌, count_by, take}
use Rattle.alloc_tree.specs.Refused.{is_of}
use Rattle.alloc_tree.specs.View.{node_found}
use Rattle.alloc_tree.proofs.entries.count.Given as goal

abbrev pub invariant-loop-entry : goal.invariant-loop-entry
invariant-loop-entry g l = l.counted ≡ count_by (λ e. is_of l.kind (node_found e.node)) (take l.entry-index l.entries)
