use Rattle.std.proofs.Common.{◌∙◌, subst, ◌≡◌, true}
use Rattle.object_state.specs.Held.{Held}
use Rattle.object_state.specs.Marks.{are_unmarked}
use Rattle.object_state.proofs.Unmarked.{unmarked-resolved}
use Rattle.object_state.proofs.object.Object.resolve_one.Goals as goal

pub returns-then-not-self : goal.returns-then-not-self
returns-then-not-self c =
    c.into_line.ensures
    ∙ unmarked-resolved c.args.line c.args.self.now.attributes
    (subst (λ (h : Held). are_unmarked h.attributes ≡ true) c.self.view_is (c.self.invariant.marked c.if-not-self.true))
