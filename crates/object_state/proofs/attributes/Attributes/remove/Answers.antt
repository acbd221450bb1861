use Rattle.std.proofs.Common.{sym, subst}
use Rattle.object_state.specs.Kept.{kept_in, HaveOwnNames}
use Rattle.object_state.proofs.Kept.{names-remove}
use Rattle.object_state.proofs.attributes.Attributes.remove.Goals.{in-Few, in-Many}
use Rattle.object_state.proofs.attributes.Attributes.remove.Goals as goal

pub invariant_of-self : goal.invariant_of-self
invariant_of-self c =
    elim c.match-self.branch [
      | in-Few w ↦
          let names = subst (λ form. HaveOwnNames (kept_in form).entries) w.in-Few.is c.self.invariant in
          rw w.self-inside-is (subst HaveOwnNames (sym w.remove_in.ensures.entries) (names-remove c.args.name.now w.in-Few.entries.items names))
      | in-Many w ↦ rw w.self-inside-is w.shift_remove.ensures.unique
    ]
