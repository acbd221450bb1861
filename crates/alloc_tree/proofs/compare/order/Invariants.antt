use Rattle.std.proofs.Common.{◌≡◌, ◌-◌, ◌≤◌, drop}
use Rattle.pps_types.specs.Names.{name_cmp}
use Rattle.alloc_tree.proofs.compare.order.Given as goal

abbrev pub invariant-loop-passed : goal.invariant-loop-passed
invariant-loop-passed l = record {
  within : l.passed ≤ l.both;
  rest : name_cmp l.one l.other ≡ name_cmp (drop l.passed l.one) (drop l.passed l.other);
}

abbrev pub decreases-loop-passed : goal.decreases-loop-passed
decreases-loop-passed l = l.both - l.passed
