use Rattle.std.proofs.Common.{sym, ◌∙◌}
use Rattle.alloc_tree.specs.declared.kind.NodeKind.TheVariants.{Directory}
use Rattle.alloc_tree.proofs.Maps.{count_of_map}
use Rattle.alloc_tree.proofs.tree.Tree.directories_in.Goals as goal

pub returns : goal.returns
returns g c = rw (← c.self.view_is) (c.count.ensures ∙ sym (count_of_map Directory c.self.inside.root c.args.path.now))
