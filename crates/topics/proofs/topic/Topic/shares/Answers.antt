use Rattle.std.proofs.Common.{◌≡◌, subst}
use Rattle.std.specs.Prelude.{IfOk}
use Rattle.server_queue.specs.Shared.{shares_for}
use Rattle.topics.proofs.Shared.{enough}
use Rattle.topics.proofs.topic.Topic.shares.Goals as goal

pub returns-in-Served-clause-enough : goal.returns-in-Served-clause-enough
returns-in-Served-clause-enough c =
    enough c.args.entry c.in-Served.service c.args.self.now c.in-Served.is c.shares.result
    (subst (λ s. IfOk c.shares.result (λ made. made ≡ shares_for c.args.entry s.handles)) c.deref.ensures c.shares.ensures)
