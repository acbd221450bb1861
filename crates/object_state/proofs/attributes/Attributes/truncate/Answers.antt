use Rattle.std.proofs.Common.{sym, subst}
use Rattle.object_state.specs.Kept.{kept_in, HaveOwnNames}
use Rattle.object_state.proofs.Kept.{names-take}
use Rattle.object_state.proofs.attributes.Attributes.truncate.Goals.{in-Few, in-Many}
use Rattle.object_state.proofs.attributes.Attributes.truncate.Goals as goal

pub invariant_of-self : goal.invariant_of-self
invariant_of-self c =
    elim c.match-self.branch [
      | in-Few w ↦
          let names = subst (λ form. HaveOwnNames (kept_in form).entries) w.in-Few.is c.self.invariant in
          rw w.self-inside-is (subst HaveOwnNames (sym w.truncate.ensures.items) (names-take c.args.len w.in-Few.entries.items names))
      | in-Many w ↦ rw w.self-inside-is w.truncate-in-Many.ensures.unique
    ]
