use Rattle.std.proofs.Common.{◌≡◌, map, ap, sym, ◌∙◌}
use Rattle.name_table.specs.Standing.{Standing, standing_of, known_of}
use Rattle.name_table.specs.contracts.names.Names.{the_view}
use Rattle.name_table.proofs.Alongside.{knowns_of}
use Rattle.name_table.proofs.names.Names.same.Goals as goal

pub returns-then-not-same_objects : goal.returns-then-not-same_objects
returns-then-not-same_objects c = (
  λ h. absurd (let no = h in cc),
  λ same.
      let inside : standing_of (the_view c.self.inside) ≡ standing_of (the_view c.other.inside) = ap standing_of c.self.view_is ∙ same ∙ sym (ap standing_of c.other.view_is) in
      let yes = c.if-not-same_objects.ensures.1 (ap (map known_of) c.iter.ensures ∙ knowns_of c.self.inside.objects.entries ∙ ap (λ (s : Standing). s.objects) inside ∙ sym (knowns_of c.other.inside.objects.entries) ∙ ap (map known_of) (sym c.iter-2.ensures)) in
      cc,
)

pub returns : goal.returns
returns c = (
  λ is.
      let objects = sym (knowns_of c.self.inside.objects.entries) ∙ ap (map known_of) (sym c.iter.ensures) ∙ c.same_objects.ensures.0 c.if-not-same_objects.false ∙ ap (map known_of) c.iter-2.ensures ∙ knowns_of c.other.inside.objects.entries in
      let directories = sym c.iter-3.ensures ∙ c.same_directories.ensures.0 is ∙ c.iter-4.ensures in
      let next_object : c.self.inside.objects.next ≡ c.other.inside.objects.next = sym c.next.ensures ∙ c.if-next.false ∙ c.next-2.ensures in
      let next_directory : c.self.inside.directories.next ≡ c.other.inside.directories.next = sym c.next-3.ensures ∙ c.if-next-2.false ∙ c.next-4.ensures in
      sym (ap standing_of c.self.view_is) ∙ (λ i. record { objects = objects i; next_object = next_object i; directories = directories i; next_directory = next_directory i }) ∙ ap standing_of c.other.view_is,
  λ same.
      let inside : standing_of (the_view c.self.inside) ≡ standing_of (the_view c.other.inside) = ap standing_of c.self.view_is ∙ same ∙ sym (ap standing_of c.other.view_is) in
      c.same_directories.ensures.1 (c.iter-3.ensures ∙ ap (λ (s : Standing). s.directories) inside ∙ sym c.iter-4.ensures),
)
