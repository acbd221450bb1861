use Rattle.std.proofs.Common.{◌∙◌, drop, ap}
use Rattle.std.proofs.lemmas.List.{drop-drop}
use Rattle.server_queue.proofs.queue.Queue.pass.Goals as goal

pub passed-preserved : goal.passed-preserved
passed-preserved c = record {
  limit = c.drop_first.ensures.limit ∙ c.passed.invariant.limit;
  owed = c.drop_first.ensures.owed ∙ ap (λ l. drop 1 l) c.passed.invariant.owed ∙ drop-drop 1 c.passed.counter c.args.self.now.owed;
}
