use Rattle.std.proofs.Common.{◌≡◌, IfOk, ◌∙◌, subst}
use Rattle.service_laws.proofs.Fits.{order-in, tree-in}
use Rattle.name_table.specs.Standing.{content_of, standing_by}
use Rattle.name_table.proofs.Listed.{members_are, list_refused}
use Rattle.name_table.proofs.names.Names.members.Goals as goal

pub returns-clause-refusal : goal.returns-clause-refusal
returns-clause-refusal c =
    let inside = content_of (standing_by c.self.inside.objects.entries c.self.inside.objects.next c.self.inside.directories.entries c.self.inside.directories.next) in
    rw (← c.self.view_is) (λ other. c.list.ensures.refusal other ∙ list_refused inside c.self.inside.tree.map c.self.invariant.names c.args.path.now)

pub returns-clause-ok : goal.returns-clause-ok
returns-clause-ok c =
    let inside = content_of (standing_by c.self.inside.objects.entries c.self.inside.objects.next c.self.inside.directories.entries c.self.inside.directories.next) in
    rw (← c.self.view_is)
    (subst (λ ms. IfOk c.list.result (λ listed. listed.items ≡ ms)) (members_are inside (order-in inside c.self.invariant.order) (tree-in inside c.self.invariant.tree) c.args.path.now c.self.inside.tree.map c.self.invariant.names) c.list.ensures.ok)
