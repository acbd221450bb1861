use Rattle.std.proofs.Common.{Some, refl, ap, sym, ◌∙◌}
use Rattle.std.specs.Option.{option_copied_mut}
use Rattle.pps_types.specs.Content.{LiveObject}
use Rattle.pps_types.specs.declared.record.Kind.TheVariants.{Change}
use Rattle.name_table.specs.contracts.named.NamedObject.{the_view}
use Rattle.name_table.specs.Standing.{AreReadyAt}
use Rattle.name_table.proofs.Happened.{set_knowns, set_named, standing_with}
use Rattle.name_table.proofs.Changed.{nobody, sure}
use Rattle.name_table.proofs.names.Names.change.Goals as goal
use Rattle.number_table.specs.Numbered.{value_under}

pub apply_commit-requires : goal.apply_commit-requires
apply_commit-requires c =
    sure (value_under c.number.result c.self.inside.objects.entries) (the_view c.known.inside) (AreReadyAt c.args.lines.now)
    (sym c.get_mut.ensures.value ∙ ap option_copied_mut c.in-Some.is ∙ ap Some (sym c.known.view_is)) (rw (← c.self.view_is, ← c.number.ensures.same) at c.requires)

pub returns-in_default : goal.returns-in_default
returns-in_default c =
    absurd (nobody (value_under c.number.result c.self.inside.objects.entries) (AreReadyAt c.args.lines.now)
    (sym c.get_mut.ensures.value ∙ ap option_copied_mut c.in_default.is) (rw (← c.self.view_is, ← c.number.ensures.same) at c.requires))

pub invariant_of-self-2 : goal.invariant_of-self-2
invariant_of-self-2 c =
    set_named c.self.inside.tree.map c.self.inside.objects.entries c.self.inside.objects.next c.self.inside.directories.entries c.self.inside.directories.next c.self.invariant c.number.result (Change c.args.lines.now) (the_view c.known.inside) (the_view record { number = c.known.inside.number; path = c.known.inside.path; directory = c.known.inside.directory; nopersist = c.known.inside.nopersist; server = c.known.inside.server; attributes = c.apply_commit.new.self }) (sym c.get_mut.ensures.value ∙ ap option_copied_mut c.in-Some.is ∙ ap Some (sym c.known.view_is)) refl refl (ap (λ attributes. Some (record { object = (the_view c.known.inside).object; attributes = attributes })) (sym c.apply_commit.ensures.attributes)) (λ (o : LiveObject). refl)

pub returns : goal.returns
returns c = record {
  standing =
      rw (← c.self.view_is, ← c.number.ensures.same)
      (ap (standing_with c.self.inside.objects.next c.self.inside.directories.entries c.self.inside.directories.next)
      (set_knowns c.self.inside.tree.map c.self.inside.objects.entries c.self.inside.objects.next c.self.inside.directories.entries c.self.inside.directories.next c.self.invariant c.number.result (Change c.args.lines.now) (the_view c.known.inside) (the_view record { number = c.known.inside.number; path = c.known.inside.path; directory = c.known.inside.directory; nopersist = c.known.inside.nopersist; server = c.known.inside.server; attributes = c.apply_commit.new.self }) (sym c.get_mut.ensures.value ∙ ap option_copied_mut c.in-Some.is ∙ ap Some (sym c.known.view_is)) refl refl (ap (λ attributes. Some (record { object = (the_view c.known.inside).object; attributes = attributes })) (sym c.apply_commit.ensures.attributes))));
}
