use Rattle.std.proofs.Common.{◌∙◌}
use Rattle.pps_dispatch.proofs.history.check_history.Goals as goal

pub find_all-requires-clause-found : goal.find_all-requires-clause-found
find_all-requires-clause-found c = c.as_mut_slice.ensures.value ∙ c.in_ok-found.ensures.items_if_clones_equal (λ y same. same)
