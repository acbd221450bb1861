use Rattle.std.proofs.Common.{◌∙◌}
use Rattle.service_laws.proofs.Fits.{order-in, tree-in}
use Rattle.name_table.specs.Standing.{content_of, standing_by}
use Rattle.name_table.proofs.Listed.{directories_counted}
use Rattle.name_table.proofs.names.Names.directories_in.Goals as goal

pub returns : goal.returns
returns c =
    let inside = content_of (standing_by c.self.inside.objects.entries c.self.inside.objects.next c.self.inside.directories.entries c.self.inside.directories.next) in
    rw (← c.self.view_is) (c.directories_in.ensures ∙ directories_counted inside (order-in inside c.self.invariant.order) (tree-in inside c.self.invariant.tree) c.args.path.now c.self.inside.tree.map c.self.invariant.names)
