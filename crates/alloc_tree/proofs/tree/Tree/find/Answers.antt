use Rattle.std.proofs.Common.{ap, sym, ◌∙◌}
use Rattle.pps_types.specs.Names.{find_at}
use Rattle.alloc_tree.specs.Contents.{whole}
use Rattle.alloc_tree.proofs.Maps.{get_is_find}
use Rattle.alloc_tree.proofs.tree.Tree.find.Goals as goal

pub returns : goal.returns
returns g c = rw (← c.self.view_is) (c.find.ensures ∙ ap (λ f. find_at f c.args.path.now) (sym (get_is_find (whole c.self.inside.root))))
