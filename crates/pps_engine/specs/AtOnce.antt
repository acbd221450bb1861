-- What an event comes to that is planned and carried out at once.
use Rattle.std.specs.Prelude.{◌≡◌, OnErr}
use Rattle.pps_types.specs.declared.event.Event.{Event}
use Rattle.pps_types.specs.Outcome.{Reply, IsSendable}
use Rattle.pps_types.specs.Content.{Content}
use Rattle.pps_types.specs.Stands.{StepsSeen}
use Rattle.pps_engine.specs.Standing.{IsSound}

-- The answer and what stands then are the event's, and sound; a refusal changes nothing; and the answer can be sent.
pub record TakesStep (old : Content) (e : Event) (reply : Reply) (new : Content) : Type 0 where
  pub seen : StepsSeen old e reply new
  pub sound : IsSound new
  pub kept : OnErr reply (new ≡ old)
  pub sends : IsSendable reply
