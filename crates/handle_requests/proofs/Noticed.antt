-- How a notice of the own handle is checked, and what it does.
use Rattle.std.specs.Prelude.{◌≡◌, ◌≢◌, ◌∷◌, [], ◌++◌, ◌⊎◌, ℕ, List, Bool, true, false, nat_lt, not, if◌then◌else◌, Option, Some, None, is_some, option_map}
use Rattle.std.specs.Option.{option_map_or}
use Rattle.std.proofs.Common.{refl, sym, ◌∙◌, ap, inl, inr}
use Rattle.pps_types.specs.declared.refusal.Refusal.{Refusal}
use Rattle.pps_types.specs.declared.refusal.Refusal.TheVariants.{OutOfMemory, BadMode, BadArgument, BadHandle}
use Rattle.pps_types.specs.declared.event.Action.{Action}
use Rattle.pps_types.specs.Reading.{OpenHandle}
use Rattle.pps_types.specs.Rests.{Progress}
use Rattle.pps_types.specs.Outbox.{arms, arm_refusal}
use Rattle.pps_types.specs.Content.{Content, own_handle, outbox_of, news}
use Rattle.pps_types.specs.Checks.{Check, Refuse, Memory, first_refusal, reaches_memory, refused, request_checks}
use Rattle.pps_types.specs.Plan.{effect, Arms}
use Rattle.pps_types.specs.declared.outcome.Outcome.TheVariants.{Input, Done}
use Rattle.sub_reader.specs.Opened.{armed_pulse}
use Rattle.sub_reader.specs.declared.opening.Pulse.{Pulse}
use Rattle.handle_requests.specs.declared.notifying.Notified.{Notified}
use Rattle.handle_requests.specs.Notices.{notify_of, notice_of, IsNoticed}
use Rattle.service_state.specs.Refused.{Fails}
use Rattle.handle_requests.proofs.Owns.{own_is}
use Rattle.service_state.proofs.Memory.{memory_or}

-- the checks, by what they look at
abbrev asked_by : Bool → Bool → Bool → Option Refusal → List Check
asked_by reads low arms full = Refuse (not reads) BadMode ∷ Refuse low BadArgument ∷ (if arms then refused full ++ Memory ∷ [] else [])

-- the own handle that is asked
read_off : (o : Option (OpenHandle Progress)) (b : Bool) → option_map {U = Bool × Bool} (λ h. (h.reads, news h)) o ≡ Some (true, b) → (h : OpenHandle Progress) × ((o ≡ Some h) × ((h.reads ≡ true) × (news h ≡ b)))
read_off None b e = absurd (let bad = e in cc)
read_off (Some h) b e = let same : ◌≡◌ {A = Bool × Bool} (h.reads, news h) (true, b) = let is = e in cc in (h, (refl, (ap (λ (p : Bool × Bool). p.0) same, ap (λ (p : Bool × Bool). p.1) same)))

module _ (c : Content) (conn handle : ℕ) (action : Action) (pulse : Pulse) (n : Notified) (noted : IsNoticed c conn handle action pulse n) where
  known : (h : OpenHandle Progress) × ((own_handle c conn handle ≡ Some h) × ((h.reads ≡ true) × (news h ≡ n.news)))
  known = read_off (own_handle c conn handle) n.news noted.own

  pub checks_asked : request_checks c conn (notify_of handle action pulse) ≡ asked_by true false (arms action n.news) (arm_refusal (outbox_of c conn) handle)
  checks_asked =
      let h = known.0 in
      let own : own_handle c conn handle ≡ Some h = known.1.0 in
      let is = own_is c.handles conn handle h own in
      ap (λ o. option_map_or (λ (h : OpenHandle Progress). asked_by h.reads (nat_lt 127 pulse.code) (arms action (news h)) (arm_refusal (outbox_of c h.connection) h.number)) o (Refuse true BadHandle ∷ [])) own
      ∙ ap (λ r. asked_by r (nat_lt 127 pulse.code) (arms action (news h)) (arm_refusal (outbox_of c h.connection) h.number)) known.1.1.0
      ∙ ap (λ l. asked_by true l (arms action (news h)) (arm_refusal (outbox_of c h.connection) h.number)) noted.code
      ∙ ap (λ b. asked_by true false (arms action b) (arm_refusal (outbox_of c h.connection) h.number)) known.1.1.1
      ∙ ap (λ k. asked_by true false (arms action n.news) (arm_refusal (outbox_of c k) h.number)) is.1.0
      ∙ ap (λ k. asked_by true false (arms action n.news) (arm_refusal (outbox_of c conn) k)) is.0

  pub news_told : option_map news (own_handle c conn handle) ≡ Some n.news
  news_told = ap (option_map news) known.1.0 ∙ ap Some known.1.1.1

  pub notice_told : effect c conn (notify_of handle action pulse) ≡ notice_of handle n
  unfolding effect
  notice_told =
      let h = known.0 in
      let own : own_handle c conn handle ≡ Some h = known.1.0 in
      let is = own_is c.handles conn handle h own in
      ap (λ o. option_map_or (λ (h : OpenHandle Progress). (Input (news h), Arms h.number (if arms action (news h) then Some (pulse.code, pulse.value) else None) ∷ [])) o (Done, [])) own
      ∙ ap (λ k. (Input (news h), Arms k (if arms action (news h) then Some (pulse.code, pulse.value) else None) ∷ [])) is.0
      ∙ ap (λ b. (Input b, Arms handle (if arms action b then Some (pulse.code, pulse.value) else None) ∷ [])) known.1.1.1
      ∙ ap (λ p. (Input n.news, Arms handle p ∷ [])) (sym noted.arming)

  -- whether a pulse is to be armed
  pub armed_told : is_some n.pulse ≡ arms action n.news
  armed_told = by n.pulse (arms action n.news) noted.arming
    where
      by : (p : Option Pulse) (b : Bool) → armed_pulse p ≡ (if b then Some (pulse.code, pulse.value) else None) → is_some p ≡ b
      by None true e = absurd (let bad = e in cc)
      by None false e = refl
      by (Some p) true e = refl
      by (Some p) false e = absurd (let bad = e in cc)

  -- no pulse is to be armed
  pub quiet_passes : is_some n.pulse ≡ false → first_refusal (request_checks c conn (notify_of handle action pulse)) ≡ None
  quiet_passes quiet = ap first_refusal (checks_asked ∙ ap (λ b. asked_by true false b (arm_refusal (outbox_of c conn) handle)) (sym armed_told ∙ quiet))

  -- one is, and there is a place for it
  pub armed_passes : is_some n.pulse ≡ true → arm_refusal (outbox_of c conn) handle ≡ None → first_refusal (request_checks c conn (notify_of handle action pulse)) ≡ None
  armed_passes armed free = ap first_refusal (checks_asked ∙ ap (λ b. asked_by true false b (arm_refusal (outbox_of c conn) handle)) (sym armed_told ∙ armed) ∙ ap (asked_by true false true) free)

  -- one is, and it is refused
  pub armed_fails : is_some n.pulse ≡ true → (r : Refusal) → (Some r ≢ Some OutOfMemory → Some r ≡ arm_refusal (outbox_of c conn) handle) → (Some r ≡ Some OutOfMemory → arm_refusal (outbox_of c conn) handle ≡ None)
      → Fails (request_checks c conn (notify_of handle action pulse)) r
  armed_fails armed r full free = by (memory_or r)
    where
      so : (o : Option Refusal) → arm_refusal (outbox_of c conn) handle ≡ o → request_checks c conn (notify_of handle action pulse) ≡ asked_by true false true o
      so o e = checks_asked ∙ ap (λ b. asked_by true false b (arm_refusal (outbox_of c conn) handle)) (sym armed_told ∙ armed) ∙ ap (asked_by true false true) e

      by : (r ≡ OutOfMemory) ⊎ (Some r ≢ Some OutOfMemory) → Fails (request_checks c conn (notify_of handle action pulse)) r
      by (inl is) = inr (is, ap reaches_memory (so None (free (ap Some is))))
      by (inr other) = inl (ap first_refusal (so (Some r) (sym (full other))))
