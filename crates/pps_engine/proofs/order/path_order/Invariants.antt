use Rattle.std.proofs.Common.{◌≡◌, length}
use Rattle.pps_types.specs.Names.{path_cmp}
use Rattle.pps_engine.proofs.order.path_order.Given as goal

-- what is left decides
abbrev pub invariant-loop-our : goal.invariant-loop-our
invariant-loop-our l = path_cmp l.ours l.theirs ≡ path_cmp l.fn.one l.fn.other

abbrev pub decreases-loop-our : goal.decreases-loop-our
decreases-loop-our l = length l.ours
