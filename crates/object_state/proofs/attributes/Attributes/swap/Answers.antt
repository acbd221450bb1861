use Rattle.std.proofs.Common.{◌≡◌, ◌∙◌, sym, ap, subst, arith, length}
use Rattle.object_state.specs.Kept.{Kept, kept_in, HaveOwnNames}
use Rattle.object_state.proofs.Kept.{names-swap}
use Rattle.object_state.proofs.attributes.Attributes.swap.Goals.{in-Few, in-Many}
use Rattle.object_state.proofs.attributes.Attributes.swap.Goals as goal

pub invariant_of-self : goal.invariant_of-self
invariant_of-self c =
    elim c.match-self.branch [
      | in-Few w ↦
          let names = subst (λ form. HaveOwnNames (kept_in form).entries) w.in-Few.is c.self.invariant in
          let held : length c.args.self.now.entries ≡ length w.in-Few.entries.items = sym (ap (λ (k : Kept). length k.entries) c.self.view_is) ∙ ap (λ form. length (kept_in form).entries) w.in-Few.is in
          rw w.self-inside-is (
          names-swap w.in-Few.entries.items w.swap.new.self.items c.args.one c.args.other (omega (arith, c.requires.one, held)) (omega (arith, c.requires.other, held)) w.swap.ensures.items names
          )
      | in-Many w ↦ rw w.self-inside-is w.swap_indices.ensures.unique
    ]
