use Rattle.std.proofs.Common.{arith}
use Rattle.service_laws.proofs.StandsLaw.{runs-stand}
use Rattle.pps_types.specs.Runs.{answered}
use Rattle.pps_engine.proofs.Lists.{runs-all}
use Rattle.pps_engine.proofs.engine.Engine.run_reserved.Goals as goal

pub returns-clause-seen : goal.returns-clause-seen
returns-clause-seen c = runs-all c.args.self.now.content c.events.self.content c.args.events.now c.events.event-index c.events.replies.items (omega (arith, c.events-test.false)) c.events.invariant.runs

pub returns-clause-runs : goal.returns-clause-runs
returns-clause-runs c = runs-stand (answered c.args.events.now c.events.replies.items) c.args.self.now.content c.events.self.content (returns-clause-seen c)
