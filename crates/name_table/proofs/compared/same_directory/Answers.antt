use Rattle.std.proofs.Common.{◌≡◌, eqb-true, ap, sym, ◌∙◌}
use Rattle.pps_types.specs.Content.{Directory}
use Rattle.pps_types.specs.Names.{same_path}
use Rattle.service_laws.proofs.Trees.{same_path-is, path-itself}
use Rattle.name_table.proofs.compared.same_directory.Goals as goal

pub returns-then-eq : goal.returns-then-eq
returns-then-eq c =
    let answer : c.eq-then-eq.result ≡ same_path c.one.inside.path.items c.other.inside.path.items = c.eq-then-eq.ensures ∙ (λ i. same_path (c.as_slice.ensures.value i) (c.as_slice-then-eq.ensures.value i)) in
    let number : c.one.inside.number ≡ c.other.inside.number = eqb-true c.one.inside.number c.other.inside.number (sym c.if-eq.ensures) in (
      λ is. sym c.one.view_is ∙ (λ i. record { number = number i; path = same_path-is c.one.inside.path.items c.other.inside.path.items (sym answer ∙ is) i }) ∙ c.other.view_is,
      λ same.
          let paths : c.one.inside.path.items ≡ c.other.inside.path.items = ap (λ (d : Directory). d.path) (c.one.view_is ∙ same ∙ sym c.other.view_is) in
          answer ∙ ap (λ p. same_path p c.other.inside.path.items) paths ∙ path-itself c.other.inside.path.items,
    )
