use Rattle.std.proofs.Common.{Some, ap, sym, ◌∙◌}
use Rattle.pps_types.specs.Names as paths
use Rattle.name_table.specs.contracts.named.NamedObject.{the_view}
use Rattle.name_table.proofs.Happened.{standing_with}
use Rattle.name_table.proofs.Deleted.{are_left, can_go, deleted_named, none_left}
use Rattle.name_table.proofs.names.Names.delete.Goals as goal

pub invariant_of-self : goal.invariant_of-self
invariant_of-self c =
    rw (c.remove.ensures.entries, c.remove.ensures.next)
    (none_left c.self.inside.tree.map c.self.inside.objects.entries c.self.inside.objects.next c.self.inside.directories.entries c.self.inside.directories.next c.self.invariant c.number.result
    (sym c.remove.ensures.value ∙ c.in_default.is))

pub returns-in_default-clause-standing : goal.returns-in_default-clause-standing
returns-in_default-clause-standing c =
    rw (← c.self.view_is, c.remove.ensures.entries, c.remove.ensures.next, ← c.number.ensures.same)
    (ap (standing_with c.self.inside.objects.next c.self.inside.directories.entries c.self.inside.directories.next)
    (are_left c.self.inside.tree.map c.self.inside.objects.entries c.self.inside.objects.next c.self.inside.directories.entries c.self.inside.directories.next c.self.invariant c.number.result))

pub unreachable-requires : goal.unreachable-requires
unreachable-requires c =
    let refused = ap paths.refusal_of (sym c.in_default-remove.is) ∙ c.remove-2.ensures.refusal ∙ ap (paths.object_refusal c.self.inside.tree.map) c.deref.ensures.value
    ∙ can_go c.self.inside.tree.map c.self.inside.objects.entries c.self.inside.objects.next c.self.inside.directories.entries c.self.inside.directories.next c.self.invariant c.number.result (the_view c.known.inside)
    (sym c.remove.ensures.value ∙ c.in-Some.is ∙ ap Some (sym c.known.view_is)) in
    cc

pub invariant_of-self-2 : goal.invariant_of-self-2
invariant_of-self-2 c =
    rw (c.in-Ok.ensures.map, c.deref.ensures.value, c.remove.ensures.entries, c.remove.ensures.next)
    (deleted_named c.self.inside.tree.map c.self.inside.objects.entries c.self.inside.objects.next c.self.inside.directories.entries c.self.inside.directories.next c.self.invariant c.number.result (the_view c.known.inside)
    (sym c.remove.ensures.value ∙ c.in-Some.is ∙ ap Some (sym c.known.view_is)))

pub returns-clause-standing : goal.returns-clause-standing
returns-clause-standing c =
    rw (← c.self.view_is, c.remove.ensures.entries, c.remove.ensures.next, ← c.number.ensures.same)
    (ap (standing_with c.self.inside.objects.next c.self.inside.directories.entries c.self.inside.directories.next)
    (are_left c.self.inside.tree.map c.self.inside.objects.entries c.self.inside.objects.next c.self.inside.directories.entries c.self.inside.directories.next c.self.invariant c.number.result))
