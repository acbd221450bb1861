use Rattle.std.proofs.Common.{◌-◌, ◌<◌, ◌≤◌}
use Rattle.alloc_tree.proofs.Places.{IsBetween}
use Rattle.alloc_tree.proofs.entries.search_by_order.Given as goal

abbrev pub invariant-loop-low : goal.invariant-loop-low
invariant-loop-low g l = record {
  between : IsBetween l.entries l.name l.low l.high;
  from_low : l.low ≤ l.middle;
  below_high : l.low < l.high → l.middle < l.high;
}

abbrev pub decreases-loop-low : goal.decreases-loop-low
decreases-loop-low g l = l.high - l.low
