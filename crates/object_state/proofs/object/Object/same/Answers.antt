use Rattle.std.proofs.Common.{◌≡◌, ◌∙◌, sym, ap}
use Rattle.std.proofs.lemmas.Bool.{eqb-true}
use Rattle.pps_types.specs.History.{text_length}
use Rattle.object_state.specs.Entries.{attributes_of}
use Rattle.object_state.proofs.Entries.{attributes-inj}
use Rattle.object_state.proofs.object.Object.same.Goals as goal

pub returns-then-self-other : goal.returns-then-self-other
returns-then-self-other c =
    let mine : attributes_of c.self.inside.map.entries ≡ c.args.self.now.attributes = λ i. (c.self.view_is i).attributes in
    let others : attributes_of c.other.inside.map.entries ≡ c.args.other.now.attributes = λ i. (c.other.view_is i).attributes in (
      λ is. sym mine ∙ ap attributes_of (c.same.ensures.0 is) ∙ others,
      λ e. c.same.ensures.1 (attributes-inj _ _ (mine ∙ e ∙ sym others)),
    )

pub returns-else-self-other : goal.returns-else-self-other
returns-else-self-other c =
    let mine : attributes_of c.self.inside.map.entries ≡ c.args.self.now.attributes = λ i. (c.self.view_is i).attributes in
    let others : attributes_of c.other.inside.map.entries ≡ c.args.other.now.attributes = λ i. (c.other.view_is i).attributes in (
      λ is. absurd (c.if-self-other.false (eqb-true _ _ is)),
      λ e. absurd (c.if-self-other.false (c.self.invariant.kept ∙ ap text_length (mine ∙ e ∙ sym others) ∙ sym c.other.invariant.kept)),
    )
