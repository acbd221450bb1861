-- Notices, by what is known of a handle.
use Rattle.std.specs.Prelude.{◌≡◌, ℕ, List, [], ◌∷◌, Bool, true, false, Some, None, nat_lt, if◌then◌else◌, is_some, option_map}
use Rattle.pps_types.specs.declared.event.Action.{Action}
use Rattle.pps_types.specs.declared.event.Request.{Request}
use Rattle.pps_types.specs.declared.event.Request.TheVariants.{Notify}
use Rattle.pps_types.specs.declared.outcome.Outcome.{Outcome}
use Rattle.pps_types.specs.declared.outcome.Outcome.TheVariants.{Input}
use Rattle.pps_types.specs.Reading.{OpenHandle}
use Rattle.pps_types.specs.Rests.{Progress}
use Rattle.pps_types.specs.Outbox.{arms}
use Rattle.pps_types.specs.Plan.{Move, Arms}
use Rattle.pps_types.specs.Content.{Content, own_handle, news}
use Rattle.pps_types.specs.Checks.{Check, on_handle, notify_checks}
use Rattle.sub_reader.specs.Opened.{armed_pulse}
use Rattle.sub_reader.specs.declared.opening.Pulse.{Pulse}
use Rattle.notify_box.specs.Standing.{CanArm}
use Rattle.service_state.specs.Tables.{Tabled, content_in}
use Rattle.service_state.specs.Refused.{checks_in, effect_in}
use Rattle.handle_requests.specs.declared.notifying.Notified.{Notified}

-- what is asked
abbrev pub notify_of : ℕ → Action → Pulse → Request
notify_of handle action pulse = Notify handle action pulse.code pulse.value

-- the answer, and what it arms
abbrev pub notice_of : ℕ → Notified → Outcome × List Move
notice_of handle n = (Input n.news, Arms handle (armed_pulse n.pulse) ∷ [])

-- The handle is the connection's own, and reads; the code is one of a pulse. The answer is whether it has news, and the pulse is
-- armed where the action arms it.
pub record IsNoticed (c : Content) (conn number : ℕ) (action : Action) (pulse : Pulse) (n : Notified) : Type 0 where
  pub own : option_map {U = Bool × Bool} (λ (handle : OpenHandle Progress). (handle.reads, news handle)) (own_handle c conn number) ≡ Some (true, n.news)
  pub code : nat_lt 127 pulse.code ≡ false
  pub arming : armed_pulse n.pulse ≡ (if arms action n.news then Some (pulse.code, pulse.value) else None)

-- ---- over the tables

-- the checks of what is asked
abbrev pub notice_checks : Tabled → ℕ → ℕ → Action → Pulse → List Check
notice_checks t conn handle action pulse = checks_in t conn (notify_of handle action pulse)

-- the same, by the code alone of a pulse
abbrev pub code_checks : Tabled → ℕ → ℕ → Action → ℕ → List Check
code_checks t conn handle action code = on_handle (content_in t) conn handle (notify_checks (content_in t) action code)

-- this is what it does, where no check refuses it
abbrev pub IsNoticeEffect : Tabled → ℕ → ℕ → Action → Pulse → Notified → Type 0
IsNoticeEffect t conn handle action pulse n = effect_in t conn (notify_of handle action pulse) ≡ notice_of handle n

-- where a pulse is to be armed, there is room for it
abbrev pub HasPulseRoom : Tabled → ℕ → ℕ → Notified → Type 0
HasPulseRoom t conn handle n = is_some n.pulse ≡ true → CanArm conn handle t.connections
