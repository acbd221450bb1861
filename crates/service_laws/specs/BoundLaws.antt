-- The laws of the bounds.
use Rattle.std.specs.Prelude.{◌≡◌, ◌≤◌, ◌<◌, ℕ, ◌^◌, Some}
use Rattle.pps_types.specs.declared.event.Event.{Event}
use Rattle.pps_types.specs.Outcome.{IsSendable}
use Rattle.pps_types.specs.Reading.{OpenHandle, Needs}
use Rattle.pps_types.specs.Rests.{Progress}
use Rattle.pps_types.specs.Content.{Content, handle_numbered, read_answer}
use Rattle.pps_types.specs.Plan.{step_seen}
use Rattle.pps_types.specs.WellFormed.{IsContent}
use Rattle.pps_types.specs.Machine.{start, content_of}
use Rattle.service_laws.specs.Bounds.{IsBound}

pub record BoundsStay : Type 0 where
  pub begins : (first_handle default_limit : ℕ) → first_handle ≤ 4294967296 → IsBound (content_of (start first_handle default_limit))
  pub stays : (c : Content) → IsContent c → IsBound c → (e : Event) → IsBound (step_seen c e).1

pub record SizesFit : Type 0 where
  pub needs : (c : Content) → IsBound c → (number : ℕ) (handle : OpenHandle Progress) → handle_numbered c number ≡ Some handle
      → (max need : ℕ) → read_answer c handle max ≡ Needs need → need < 2 ^ 32
  pub answers : (c : Content) → IsBound c → (e : Event) → IsSendable (step_seen c e).0
