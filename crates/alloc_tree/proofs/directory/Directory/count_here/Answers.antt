use Rattle.std.proofs.Common.{sym, ap, ◌∙◌, count_by}
use Rattle.alloc_tree.specs.Refused.{is_of}
use Rattle.alloc_tree.specs.View.{node_found}
use Rattle.alloc_tree.proofs.Ordered.{whole_is}
use Rattle.alloc_tree.proofs.News.{counted}
use Rattle.alloc_tree.proofs.directory.Directory.count_here.Goals as goal

pub returns : goal.returns
returns g c =
    rw (whole_is c.self.inside.id c.self.inside.entries _ c.self.view_is c.self.invariant)
    (c.count.ensures ∙ ap (count_by (λ e. is_of c.args.kind (node_found e.node))) c.deref.ensures.value ∙ sym (counted c.args.kind c.self.inside.id c.self.inside.entries.items))
