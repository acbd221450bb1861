use Rattle.std.proofs.Common.{◌≡◌, ◌+◌, length, drop}
use Rattle.std.specs.VecDeque.{deque_capacity}
use Rattle.sub_reader.specs.Counts.{zeros}
use Rattle.sub_reader.proofs.counts.drop_zeros.Given as goal

abbrev pub invariant-loop-counts : goal.invariant-loop-counts
invariant-loop-counts l = record {
  counts : l.counts.items ≡ drop l.dropped l.fn.counts.items;
  left : l.dropped + zeros l.counts.items ≡ zeros l.fn.counts.items;
  long : l.dropped + length l.counts.items ≡ length l.fn.counts.items;
  capacity : deque_capacity l.counts ≡ deque_capacity l.fn.counts;
}

abbrev pub decreases-loop-counts : goal.decreases-loop-counts
decreases-loop-counts l = length l.counts.items
