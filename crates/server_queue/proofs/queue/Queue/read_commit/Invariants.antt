use Rattle.std.proofs.Common.{◌≡◌, drop}
use Rattle.server_queue.proofs.queue.Queue.read_commit.Given as goal

abbrev pub invariant-given : goal.invariant-given
invariant-given l = record {
  limit : l.self.limit ≡ l.fn.self.limit;
  owed : l.self.owed ≡ drop l.counter l.fn.self.owed;
}
