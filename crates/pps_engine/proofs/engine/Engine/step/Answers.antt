use Rattle.std.proofs.Common.{rules}
use Rattle.service_state.specs.Tables.{content_in}
use Rattle.service_laws.proofs.StandsLaw.{steps-stand}
use Rattle.pps_engine.proofs.engine.Engine.step.Goals as goal

pub returns-clause-steps : goal.returns-clause-steps
returns-clause-steps c =
    steps-stand c.args.self.now.content c.args.event.now c.take_step-answer.result (content_in c.take_step-answer.new.tables)
    (search (rules, c.take_step-answer.ensures.seen, c.self.view_is, c.deref_mut-2.ensures.value))
