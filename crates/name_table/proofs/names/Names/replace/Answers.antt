use Rattle.std.proofs.Common.{◌+◌, ap, sym, ◌∙◌}
use Rattle.pps_types.specs.Names as paths
use Rattle.number_table.specs.Numbered.{value_under}
use Rattle.name_table.specs.Standing.{Placed}
use Rattle.name_table.proofs.Happened.{standing_with}
use Rattle.name_table.proofs.Changed.{said}
use Rattle.name_table.proofs.Deleted.{can_go}
use Rattle.name_table.proofs.Replaced.{replaced_named, replaced_knowns}
use Rattle.name_table.proofs.names.Names.replace.Goals as goal

pub unreachable-requires-in_default-replace : goal.unreachable-requires-in_default-replace
unreachable-requires-in_default-replace c =
    let refused = ap paths.refusal_of (sym c.in_default-replace.is) ∙ c.replace.ensures.refusal ∙ ap (paths.object_refusal c.self.inside.tree.map) (c.deref.ensures.value ∙ ap (λ (x : Placed). x.path) c.gone.view_is)
    ∙ can_go c.self.inside.tree.map c.self.inside.objects.entries c.self.inside.objects.next c.self.inside.directories.entries c.self.inside.directories.next c.self.invariant c.number.result c.in-Some.gone
    (sym c.remove.ensures.value ∙ c.in-Some.is) in
    cc

pub invariant_of-self : goal.invariant_of-self
invariant_of-self c =
    rw (c.in-Ok.ensures.map, c.deref.ensures.value ∙ ap (λ (x : Placed). x.path) c.gone.view_is, c.push_reserved.ensures.entries, c.push_reserved.ensures.next, c.remove.ensures.entries, c.number-2.ensures.same, c.new-number.ensures, c.next.ensures)
    (replaced_named c.self.inside.tree.map c.self.inside.objects.entries c.self.inside.objects.next c.self.inside.directories.entries c.self.inside.directories.next c.self.invariant c.number.result c.in-Some.gone
    (sym c.remove.ensures.value ∙ c.in-Some.is)
    c.followed_by-newcomer.result c.new-number.result c.args.nopersist c.args.server (c.new-number.ensures ∙ c.next.ensures) c.followed_by-newcomer.ensures.object c.followed_by-newcomer.ensures.path c.followed_by-newcomer.ensures.attributes)

pub returns-clause-standing : goal.returns-clause-standing
returns-clause-standing c =
    rw (← c.self.view_is, ← c.number.ensures.same, c.push_reserved.ensures.entries, c.push_reserved.ensures.next, c.remove.ensures.entries, c.number-2.ensures.same, c.new-number.ensures, c.next.ensures)
    (said (value_under c.number.result c.self.inside.objects.entries) c.in-Some.gone _
    (sym c.remove.ensures.value ∙ c.in-Some.is)
    (ap (standing_with (c.self.inside.objects.next + 1) c.self.inside.directories.entries c.self.inside.directories.next)
    (replaced_knowns c.self.inside.tree.map c.self.inside.objects.entries c.self.inside.objects.next c.self.inside.directories.entries c.self.inside.directories.next c.self.invariant c.number.result c.in-Some.gone
    (sym c.remove.ensures.value ∙ c.in-Some.is)
    c.followed_by-newcomer.result c.new-number.result c.args.nopersist c.args.server (c.new-number.ensures ∙ c.next.ensures) c.followed_by-newcomer.ensures.object c.followed_by-newcomer.ensures.path c.followed_by-newcomer.ensures.attributes)))
