use Rattle.std.proofs.Common.{◌≡◌, drop}
use Rattle.server_queue.proofs.queue.Queue.pass.Given as goal

abbrev pub invariant-passed : goal.invariant-passed
invariant-passed l = record {
  limit : l.self.limit ≡ l.fn.self.limit;
  owed : l.self.owed ≡ drop l.counter l.fn.self.owed;
}
