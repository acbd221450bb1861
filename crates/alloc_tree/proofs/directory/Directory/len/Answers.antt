use Rattle.std.proofs.Common.{ap, sym, ◌∙◌, [], length}
use Rattle.pps_types.specs.Names.{members_in}
use Rattle.alloc_tree.proofs.Ordered.{whole_is}
use Rattle.alloc_tree.proofs.Members.{members_count}
use Rattle.alloc_tree.proofs.directory.Directory.len.Goals as goal

pub returns : goal.returns
returns g c =
    c.len.ensures ∙ c.self.inside.entries.ok.0 ∙ sym (members_count c.self.inside.entries.items)
    ∙ sym (ap (λ w. length (members_in [] w)) (whole_is c.self.inside.id c.self.inside.entries _ c.self.view_is c.self.invariant))
