use Rattle.std.proofs.Common.{sym, subst}
use Rattle.object_state.specs.Kept.{HaveOwnNames}
use Rattle.object_state.proofs.Kept.{names-none}
use Rattle.object_state.proofs.attributes.Attributes.new.Goals as goal

pub invariant_of-result : goal.invariant_of-result
invariant_of-result c = subst HaveOwnNames (sym c.new.ensures.items) names-none
