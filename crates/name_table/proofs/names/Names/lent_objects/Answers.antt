use Rattle.std.proofs.Common.{Some, ap, sym, ◌∙◌}
use Rattle.std.specs.Option.{option_copied}
use Rattle.std.specs.List.{filter_map}
use Rattle.pps_types.specs.Names as paths
use Rattle.pps_types.specs.Names.{members_of}
use Rattle.name_table.specs.Listed.{object_number, objects_among}
use Rattle.name_table.specs.Standing.{Standing, standing_of}
use Rattle.name_table.specs.contracts.named.NamedDirectory.{the_view}
use Rattle.name_table.proofs.Numbers.{numbers_of}
use Rattle.name_table.proofs.LentMembers.{none_lent, lent_of, can_list}
use Rattle.name_table.proofs.names.Names.lent_objects.Goals as goal

pub returns-in_default : goal.returns-in_default
returns-in_default c =
    rw (← c.self.view_is, ← c.number-number.ensures.same)
    (ap (filter_map (λ o. o)) c.new.ensures ∙ none_lent c.self.inside.tree.map c.self.inside.objects.entries c.self.inside.objects.next c.self.inside.directories.entries c.self.inside.directories.next c.self.invariant c.number-number.result
    (sym c.get.ensures.value ∙ ap option_copied c.in_default.is))

pub unreachable-requires : goal.unreachable-requires
unreachable-requires c =
    let refused = ap paths.refusal_of (sym c.in_default-lent.is) ∙ c.lent.ensures.refusal ∙ ap (paths.list_refusal c.self.inside.tree.map) c.deref.ensures.value
    ∙ can_list c.self.inside.tree.map c.self.inside.objects.entries c.self.inside.objects.next c.self.inside.directories.entries c.self.inside.directories.next c.self.invariant c.number-number.result (the_view c.known.inside)
    (sym c.get.ensures.value ∙ ap option_copied c.in-Some.is ∙ ap Some (sym c.known.view_is)) in
    cc

pub returns : goal.returns
returns c =
    let map = c.self.inside.tree.map in
    let stands = sym c.get.ensures.value ∙ ap option_copied c.in-Some.is ∙ ap Some (sym c.known.view_is) in
    rw (← c.self.view_is, ← c.number-number.ensures.same)
    (ap (filter_map (λ o. o)) (c.new-2.ensures ∙ ap (λ (s : Standing). objects_among s c.in-Ok.listed) (sym (ap standing_of c.self.view_is)))
    ∙ lent_of map c.self.inside.objects.entries c.self.inside.objects.next c.self.inside.directories.entries c.self.inside.directories.next c.self.invariant c.number-number.result (the_view c.known.inside) stands c.in-Ok.listed
    (ap (filter_map (λ m. object_number m.1)) (c.in-Ok.ensures.ok ∙ ap (members_of map) c.deref.ensures.value)
    ∙ numbers_of map c.self.inside.objects.entries c.self.inside.objects.next c.self.inside.directories.entries c.self.inside.directories.next c.self.invariant c.number-number.result (the_view c.known.inside) stands))
