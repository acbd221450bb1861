use Rattle.std.proofs.Common.{◌≡◌, refl, length, eqb-true, eq-eqb, eqb, true, false, ap, sym, ◌∙◌}
use Rattle.std.specs.Option.{option_copied}
use Rattle.pps_types.specs.Names as paths
use Rattle.name_table.proofs.Numbers.{none_bare, bare_by, bare_path, bare_objects, bare_directories}
use Rattle.name_table.proofs.names.Names.is_bare.Goals as goal

pub returns-in_default : goal.returns-in_default
returns-in_default c =
    rw (← c.self.view_is, ← c.number-number.ensures.same)
    ((λ yes. none_bare c.self.inside.tree.map c.self.inside.objects.entries c.self.inside.objects.next c.self.inside.directories.entries c.self.inside.directories.next c.self.invariant c.number-number.result (sym c.get.ensures.value ∙ ap option_copied c.in_default.is)), (λ bare. refl))

pub returns-then-is_empty : goal.returns-then-is_empty
returns-then-is_empty c =
    rw (← c.self.view_is, ← c.number-number.ensures.same) (
      (λ h. absurd (let no = h in cc)),
      (λ bare. absurd (bare_path c.self.inside.tree.map c.self.inside.objects.entries c.self.inside.objects.next c.self.inside.directories.entries c.self.inside.directories.next c.self.invariant c.number-number.result c.in-Some.known.now (sym c.get.ensures.value ∙ ap option_copied c.in-Some.is) bare
          (ap length (sym c.path-path.ensures) ∙ eqb-true (length c.path-path.result.now) 0 (sym c.if-is_empty.ensures)))),
    )

pub returns-then-objects_in-ne0 : goal.returns-then-objects_in-ne0
returns-then-objects_in-ne0 c =
    rw (← c.self.view_is, ← c.number-number.ensures.same) (
      (λ h. absurd (let no = h in cc)),
      (λ bare. absurd (c.if-objects_in-ne0.true
          (c.objects_in.ensures ∙ ap (paths.objects_in c.self.inside.tree.map) c.path-path.ensures ∙ bare_objects c.self.inside.tree.map c.self.inside.objects.entries c.self.inside.objects.next c.self.inside.directories.entries c.self.inside.directories.next c.self.invariant c.number-number.result c.in-Some.known.now (sym c.get.ensures.value ∙ ap option_copied c.in-Some.is) bare))),
    )

pub returns : goal.returns
returns c =
    rw (← c.self.view_is, ← c.number-number.ensures.same) (
      (λ yes. bare_by c.self.inside.tree.map c.self.inside.objects.entries c.self.inside.objects.next c.self.inside.directories.entries c.self.inside.directories.next c.self.invariant c.number-number.result c.in-Some.known.now (sym c.get.ensures.value ∙ ap option_copied c.in-Some.is)
          (λ zero. let none : eqb (length c.path-path.result.now) 0 ≡ true = eq-eqb (length c.path-path.result.now) 0 (ap length c.path-path.ensures ∙ zero) in let no : true ≡ false = sym none ∙ sym c.if-is_empty.ensures in cc)
          (ap (paths.objects_in c.self.inside.tree.map) (sym c.path-path.ensures) ∙ sym c.objects_in.ensures ∙ c.if-objects_in-ne0.false)
          (ap (paths.directories_in c.self.inside.tree.map) (sym c.path-path.ensures) ∙ sym c.directories_in.ensures ∙ eqb-true c.directories_in.result 0 yes)),
      (λ bare. eq-eqb c.directories_in.result 0 (c.directories_in.ensures ∙ ap (paths.directories_in c.self.inside.tree.map) c.path-path.ensures ∙ bare_directories c.self.inside.tree.map c.self.inside.objects.entries c.self.inside.objects.next c.self.inside.directories.entries c.self.inside.directories.next c.self.invariant c.number-number.result c.in-Some.known.now (sym c.get.ensures.value ∙ ap option_copied c.in-Some.is) bare)),
    )
