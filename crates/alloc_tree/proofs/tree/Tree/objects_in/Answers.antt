use Rattle.std.proofs.Common.{sym, ◌∙◌}
use Rattle.alloc_tree.specs.declared.kind.NodeKind.TheVariants.{Object}
use Rattle.alloc_tree.proofs.Maps.{count_of_map}
use Rattle.alloc_tree.proofs.tree.Tree.objects_in.Goals as goal

pub returns : goal.returns
returns g c = rw (← c.self.view_is) (c.count.ensures ∙ sym (count_of_map Object c.self.inside.root c.args.path.now))
