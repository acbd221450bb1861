use Rattle.std.proofs.Common.{Some, ap, sym, ◌∙◌}
use Rattle.std.specs.Option.{option_copied}
use Rattle.std.specs.List.{filter_map}
use Rattle.pps_types.specs.Names.{members_of}
use Rattle.name_table.specs.Listed.{object_number}
use Rattle.name_table.specs.contracts.named.NamedDirectory.{the_view}
use Rattle.name_table.proofs.Numbers.{none_of, numbers_of}
use Rattle.name_table.proofs.names.Names.objects_of.Goals as goal

pub returns-in_default-clause-ok : goal.returns-in_default-clause-ok
returns-in_default-clause-ok c =
    rw (← c.self.view_is, ← c.number-number.ensures.same)
    (c.new.ensures.items ∙ none_of c.self.inside.tree.map c.self.inside.objects.entries c.self.inside.objects.next c.self.inside.directories.entries c.self.inside.directories.next c.self.invariant c.number-number.result
    (sym c.get.ensures.value ∙ ap option_copied c.in_default.is))

pub returns-clause-ok : goal.returns-clause-ok
returns-clause-ok c =
    rw (← c.self.view_is, ← c.number-number.ensures.same)
    (c.in_ok-object_numbers.ensures ∙ ap (filter_map (λ m. object_number m.1)) (c.deref-2.ensures.value ∙ c.in-Ok.ensures.ok ∙ ap (members_of c.self.inside.tree.map) c.deref.ensures.value) ∙ numbers_of c.self.inside.tree.map c.self.inside.objects.entries c.self.inside.objects.next c.self.inside.directories.entries c.self.inside.directories.next c.self.invariant c.number-number.result (the_view c.known.inside)
    (sym c.get.ensures.value ∙ ap option_copied c.in-Some.is ∙ ap Some (sym c.known.view_is)))
