use Rattle.std.proofs.Common.{◌≡◌, ◌+◌, ◌++◌, length, deque_len, deque_capacity}
use Rattle.std.specs.VecDeque.Iter.{deque_iter_rest}
use Rattle.notify_box.proofs.room.copy_items.Given as goal

abbrev pub invariant-loop-item : goal.invariant-loop-item
invariant-loop-item l = record {
  can : (goal.iterator-loop-item).can_next l.item-iterator;
  ends : (goal.iterator-loop-item).is_finite l.item-iterator;
  items : l.copy.items ++ deque_iter_rest l.item-iterator ≡ l.items.items;
  len : deque_len l.copy + length (deque_iter_rest l.item-iterator) ≡ deque_len l.items;
  capacity : deque_capacity l.copy ≡ l.places;
}
