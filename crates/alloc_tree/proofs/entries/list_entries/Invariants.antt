use Rattle.std.proofs.Common.{◌≡◌, map, take}
use Rattle.alloc_tree.specs.View.{node_found}
use Rattle.alloc_tree.proofs.entries.list_entries.Given as goal

abbrev pub invariant-loop-entry : goal.invariant-loop-entry
invariant-loop-entry g l = l.members.items ≡ map (λ e. (e.name.items, node_found e.node)) (take l.entry-index l.entries.items)
