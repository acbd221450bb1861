use Rattle.std.proofs.Common.{Some, None, Option, cond, ap, sym, ◌∙◌}
use Rattle.std.specs.Prelude.{is_some}
use Rattle.pps_types.specs.Names as paths
use Rattle.pps_types.specs.Content.{Directory}
use Rattle.name_table.specs.contracts.named.NamedDirectory.{the_view}
use Rattle.name_table.proofs.Removed.{are_left, can_go, removed_named, none_left, numbered, standing_of_directories}
use Rattle.name_table.proofs.names.Names.remove_directory.Goals as goal

pub invariant_of-self : goal.invariant_of-self
invariant_of-self c =
    rw (c.remove.ensures.entries, c.remove.ensures.next)
    (none_left c.self.inside.tree.map c.self.inside.objects.entries c.self.inside.objects.next c.self.inside.directories.entries c.self.inside.directories.next c.self.invariant c.number.result
    (sym c.remove.ensures.value ∙ c.in_default.is))

pub returns-in_default-clause-standing : goal.returns-in_default-clause-standing
returns-in_default-clause-standing c =
    rw (← c.self.view_is, c.remove.ensures.entries, c.remove.ensures.next, ← c.number.ensures.same)
    (ap (standing_of_directories c.self.inside.objects.entries c.self.inside.objects.next c.self.inside.directories.next)
    (are_left c.self.inside.tree.map c.self.inside.objects.entries c.self.inside.objects.next c.self.inside.directories.entries c.self.inside.directories.next c.self.invariant c.number.result))

pub returns-in_default-clause-ready : goal.returns-in_default-clause-ready
returns-in_default-clause-ready c =
    rw (← c.self.view_is, ← c.number.ensures.same)
    (ap (λ (o : Option Directory). cond (is_some o) None c.self.inside.tree.ready)
    (sym (sym (numbered c.self.inside.tree.map c.self.inside.objects.entries c.self.inside.objects.next c.self.inside.directories.entries c.self.inside.directories.next c.self.invariant c.number.result) ∙ sym c.remove.ensures.value ∙ c.in_default.is)))

pub unreachable-requires : goal.unreachable-requires
unreachable-requires c =
    let refused = ap paths.refusal_of (sym c.in_default-rmdir.is) ∙ c.rmdir.ensures.refusal ∙ ap (paths.rmdir_refusal c.self.inside.tree.map) c.deref.ensures.value
    ∙ can_go c.self.inside.tree.map c.self.inside.objects.entries c.self.inside.objects.next c.self.inside.directories.entries c.self.inside.directories.next c.self.invariant c.number.result (the_view c.known.inside)
    (sym c.remove.ensures.value ∙ c.in-Some.is ∙ ap Some (sym c.known.view_is)) (rw (← c.self.view_is, ← c.number.ensures.same) at c.requires) in
    cc

pub invariant_of-self-2 : goal.invariant_of-self-2
invariant_of-self-2 c =
    rw (c.in-Ok.ensures.map, c.deref.ensures.value, c.remove.ensures.entries, c.remove.ensures.next)
    (removed_named c.self.inside.tree.map c.self.inside.objects.entries c.self.inside.objects.next c.self.inside.directories.entries c.self.inside.directories.next c.self.invariant c.number.result (the_view c.known.inside)
    (sym c.remove.ensures.value ∙ c.in-Some.is ∙ ap Some (sym c.known.view_is)) (rw (← c.self.view_is, ← c.number.ensures.same) at c.requires))

pub returns-clause-standing : goal.returns-clause-standing
returns-clause-standing c =
    rw (← c.self.view_is, c.remove.ensures.entries, c.remove.ensures.next, ← c.number.ensures.same)
    (ap (standing_of_directories c.self.inside.objects.entries c.self.inside.objects.next c.self.inside.directories.next)
    (are_left c.self.inside.tree.map c.self.inside.objects.entries c.self.inside.objects.next c.self.inside.directories.entries c.self.inside.directories.next c.self.invariant c.number.result))

pub returns-clause-ready : goal.returns-clause-ready
returns-clause-ready c =
    rw (← c.self.view_is, ← c.number.ensures.same)
    (c.in-Ok.ensures.ready ∙ ap (λ (o : Option Directory). cond (is_some o) None c.self.inside.tree.ready)
    (sym (sym (numbered c.self.inside.tree.map c.self.inside.objects.entries c.self.inside.objects.next c.self.inside.directories.entries c.self.inside.directories.next c.self.invariant c.number.result) ∙ sym c.remove.ensures.value ∙ c.in-Some.is)))
