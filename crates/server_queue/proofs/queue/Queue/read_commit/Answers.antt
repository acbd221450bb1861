use Rattle.std.proofs.Common.{◌∙◌, drop, ap}
use Rattle.std.proofs.lemmas.List.{drop-drop}
use Rattle.server_queue.proofs.queue.Queue.read_commit.Goals as goal

pub given-preserved : goal.given-preserved
given-preserved c = record {
  limit = c.drop_first.ensures.limit ∙ c.given.invariant.limit;
  owed = c.drop_first.ensures.owed ∙ ap (λ l. drop 1 l) c.given.invariant.owed ∙ drop-drop 1 c.given.counter c.args.self.now.owed;
}
