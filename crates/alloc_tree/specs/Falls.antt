-- A directory is deeper than each of its directories.
use Rattle.std.specs.Prelude.{List, [], ◌∷◌, ◌+◌, ◌≤◌}
use Rattle.std.proofs.Common.{arith}
use denote.Param.Weighed.{most}
use Rattle.alloc_tree.specs.View.{node_depth, deepest}
use Rattle.alloc_tree.specs.declared.directory.Entry.{Entry}
use Rattle.alloc_tree.specs.declared.directory.Node.{Node}
use Rattle.alloc_tree.specs.declared.directory.Node.TheVariants.{Object, Directory}
use Rattle.alloc_tree.specs.declared.directory.Directory.TheDeep.{deep-Entry, deep-Node}
use Rattle.std.specs.declared.alloc.Allocator.{Ghosts}

node_falls : {A : Type 0} (g : Ghosts A) (n : Node A) → deep-Node A g n ≤ node_depth n + 1
node_falls g (Object id) = omega arith
node_falls g (Directory d) = omega arith

pub entries_fall : {A : Type 0} (g : Ghosts A) (es : List (Entry A)) → most (λ e. deep-Entry A g e) es ≤ deepest es + 1
entries_fall g [] = omega arith
entries_fall g (e ∷ es) = omega (arith, node_falls g e.node, entries_fall g es)
