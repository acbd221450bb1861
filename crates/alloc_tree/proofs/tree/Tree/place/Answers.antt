use Rattle.std.proofs.Common.{ap, sym, ◌∙◌}
use Rattle.pps_types.specs.Names.{place}
use Rattle.alloc_tree.specs.Contents.{whole}
use Rattle.alloc_tree.proofs.Maps.{get_is_find}
use Rattle.alloc_tree.proofs.tree.Tree.place.Goals as goal

pub returns : goal.returns
returns g c = rw (← c.self.view_is) (c.spot.ensures ∙ ap (λ f. place f c.args.path.now) (sym (get_is_find (whole c.self.inside.root))))
