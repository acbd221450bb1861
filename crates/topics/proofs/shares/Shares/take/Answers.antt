use Rattle.std.proofs.Common.{◌∙◌, Some, ap}
use Rattle.topics.proofs.shares.Shares.take.Goals as goal

pub invariant_of-self : goal.invariant_of-self
invariant_of-self c = c.take.ensures.same c.self.inside.entry c.self.invariant

pub returns-clause-taken : goal.returns-clause-taken
returns-clause-taken c = c.take.ensures.taken c.self.inside.entry c.self.invariant ∙ ap (λ v. Some v.entry) c.self.view_is
