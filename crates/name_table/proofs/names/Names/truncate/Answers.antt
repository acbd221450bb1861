use Rattle.std.proofs.Common.{Some, refl, ap, sym, ◌∙◌}
use Rattle.std.specs.Option.{option_copied_mut}
use Rattle.pps_types.specs.Content.{LiveObject}
use Rattle.pps_types.specs.declared.record.Kind.TheVariants.{Truncated}
use Rattle.name_table.specs.contracts.named.NamedObject.{the_view}
use Rattle.name_table.proofs.Happened.{touched_none, set_knowns, set_named, standing_with}
use Rattle.name_table.proofs.names.Names.truncate.Goals as goal

pub returns-in_default : goal.returns-in_default
returns-in_default c = record {
  standing =
      rw (← c.self.view_is, ← c.number.ensures.same)
      (ap (standing_with c.self.inside.objects.next c.self.inside.directories.entries c.self.inside.directories.next)
      (touched_none c.number.result Truncated c.self.inside.objects.entries c.self.invariant.objects_told (sym c.get_mut.ensures.value ∙ ap option_copied_mut c.in_default.is)));
}

pub invariant_of-self-2 : goal.invariant_of-self-2
invariant_of-self-2 c =
    set_named c.self.inside.tree.map c.self.inside.objects.entries c.self.inside.objects.next c.self.inside.directories.entries c.self.inside.directories.next c.self.invariant
    c.number.result Truncated (the_view c.known.inside)
    (the_view record { number = c.known.inside.number; path = c.known.inside.path; directory = c.known.inside.directory; nopersist = c.known.inside.nopersist; server = c.known.inside.server; attributes = c.truncate.new.self })
    (sym c.get_mut.ensures.value ∙ ap option_copied_mut c.in-Some.is ∙ ap Some (sym c.known.view_is)) refl refl
    (ap (λ attributes. Some (record { object = (the_view c.known.inside).object; attributes = attributes })) (sym c.truncate.ensures.attributes))
    (λ (o : LiveObject). refl)

pub returns : goal.returns
returns c = record {
  standing =
      rw (← c.self.view_is, ← c.number.ensures.same)
      (ap (standing_with c.self.inside.objects.next c.self.inside.directories.entries c.self.inside.directories.next)
      (set_knowns c.self.inside.tree.map c.self.inside.objects.entries c.self.inside.objects.next c.self.inside.directories.entries c.self.inside.directories.next c.self.invariant
      c.number.result Truncated (the_view c.known.inside)
      (the_view record { number = c.known.inside.number; path = c.known.inside.path; directory = c.known.inside.directory; nopersist = c.known.inside.nopersist; server = c.known.inside.server; attributes = c.truncate.new.self })
      (sym c.get_mut.ensures.value ∙ ap option_copied_mut c.in-Some.is ∙ ap Some (sym c.known.view_is)) refl refl
      (ap (λ attributes. Some (record { object = (the_view c.known.inside).object; attributes = attributes })) (sym c.truncate.ensures.attributes))));
}
