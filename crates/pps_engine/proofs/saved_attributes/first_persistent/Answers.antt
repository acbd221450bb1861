use Rattle.std.proofs.Common.{sym, ◌∙◌}
use Rattle.object_state.specs.Lent.{lent}
use Rattle.pps_engine.proofs.Persistent.{persistent_here, persistent_past}
use Rattle.pps_engine.proofs.saved_attributes.first_persistent.Goals as goal

pub returns-then-not-attribute : goal.returns-then-not-attribute
returns-then-not-attribute c = sym c.loop-index.invariant ∙ persistent_here c.args.object.now.attributes c.loop-index.index (lent c.in-Some.attribute) (sym c.in-Some.ensures) c.if-not-attribute.true

pub loop-index-preserved : goal.loop-index-preserved
loop-index-preserved c = sym (persistent_past c.args.object.now.attributes c.loop-index.index (lent c.in-Some.attribute) (sym c.in-Some.ensures) c.if-not-attribute.false) ∙ c.loop-index.invariant
