-- For the crates above: what steps or runs what stands of an engine, steps or runs each machine that this stands for; and one run
-- behind another is a run. Laws of the contents, whatever the engine.
use Rattle.std.proofs.Common.{List, ◌++◌}
use Rattle.pps_types.specs.declared.event.Event.{Event}
use Rattle.pps_types.specs.Outcome.{Reply}
use Rattle.pps_types.specs.Content.{Content}
use Rattle.pps_types.specs.Runs.{Answered}
use Rattle.pps_types.specs.Stands.{StepsSeen, Steps, RunsSeen, Runs}
use Rattle.service_laws.proofs.RunJoins as joins
use Rattle.service_laws.proofs.StandsLaw as laws

pub steps-stand : (old : Content) (e : Event) (reply : Reply) (new : Content) → StepsSeen old e reply new → Steps old e reply new
steps-stand = laws.steps-stand

pub runs-stand : (answered : List Answered) (old new : Content) → RunsSeen old answered new → Runs old answered new
runs-stand = laws.runs-stand

pub runs-append : (old middle new : Content) (first second : List Answered) → RunsSeen old first middle → RunsSeen middle second new → RunsSeen old (first ++ second) new
runs-append = joins.runs-append
