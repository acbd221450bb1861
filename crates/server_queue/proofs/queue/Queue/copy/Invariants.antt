use Rattle.std.proofs.Common.{◌≡◌, ◌++◌}
use Rattle.std.specs.VecDeque.Iter.{deque_iter_rest}
use Rattle.server_queue.proofs.queue.Queue.copy.Given as goal

abbrev pub invariant-owed : goal.invariant-owed
invariant-owed l = record {
  can : (goal.iterator-owed).can_next l.entry-iterator;
  ends : (goal.iterator-owed).is_finite l.entry-iterator;
  limit : l.copy.limit ≡ l.self.limit;
  owed : l.copy.owed ++ deque_iter_rest l.entry-iterator ≡ l.self.owed;
}
