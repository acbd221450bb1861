use Rattle.std.proofs.Common.{ap, ◌∙◌}
use Rattle.std.specs.Result.{result_ok}
use Rattle.service_laws.proofs.Fits.{order-in, tree-in}
use Rattle.name_table.specs.Standing.{content_of, standing_by}
use Rattle.name_table.proofs.Sames.{found_at}
use Rattle.name_table.proofs.Looked.{found_there}
use Rattle.name_table.proofs.names.Names.at.Goals as goal

pub returns : goal.returns
returns c =
    let inside = content_of (standing_by c.self.inside.objects.entries c.self.inside.objects.next c.self.inside.directories.entries c.self.inside.directories.next) in
    rw (← c.self.view_is)
    (c.ok.ensures.value ∙ ap result_ok (c.find.ensures ∙ found_at c.self.inside.tree.map c.self.inside.objects.entries c.self.inside.objects.next c.self.inside.directories.entries c.self.inside.directories.next c.self.invariant c.args.path.now)
    ∙ found_there inside (order-in inside c.self.invariant.order) (tree-in inside c.self.invariant.tree) c.args.path.now)
