-- Two runs that a connection can't tell apart.
use Rattle.std.specs.Prelude.{ℕ, List, Result, IfOk}
use Rattle.pps_types.specs.declared.event.Event.{Event}
use Rattle.pps_types.specs.declared.refusal.Refusal.{Refusal}
use Rattle.pps_types.specs.Content.{Content}
use Rattle.pps_types.specs.Machine.{Machine}
use Rattle.pps_types.specs.Runs.{Answered, answered}
use Rattle.pps_types.specs.Stands.{Stands}
use Rattle.pps_types.specs.Privacy.{Agree}
use Rattle.service_laws.specs.Laws.{MeetsAlike}
use Rattle.pps_engine.specs.declared.private.BothAnswers.{BothAnswers}
use Rattle.pps_engine.specs.Serving.{Serving}

-- From each machine that both contents stand for, the runs meet each connection alike that they agree for.
abbrev pub KeepsPrivate : Content → Content → List Answered → List Answered → Type 0
KeepsPrivate first_content second_content first second =
    (conn : ℕ) (m : Machine) → Stands first_content m → Stands second_content m → Agree conn m first second → MeetsAlike conn m first second

-- if both lists of events are run, each by one of the two engines, their answers keep them private
abbrev pub ArePrivate : Serving → List Event → Serving → List Event → Result BothAnswers Refusal → Type 0
ArePrivate first first_events second second_events result =
    IfOk result (λ answers. KeepsPrivate first.content second.content
    (answered first_events answers.first.items) (answered second_events answers.second.items))
