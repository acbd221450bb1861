-- What an event answers and does, where no check refuses it; and its whole plan, with what follows.
use Rattle.std.specs.Prelude.{◌≡◌, ℕ, List, ◌++◌, Bool, true, false, None, Ok, Err}
use Rattle.std.specs.List.{flat_map}
use Rattle.pps_types.specs.declared.event.Event.{Event}
use Rattle.pps_types.specs.declared.event.Request.{Request}
use Rattle.pps_types.specs.declared.event.Request.TheVariants.{Attach}
use Rattle.pps_types.specs.declared.outcome.Outcome.{Outcome}
use Rattle.pps_types.specs.declared.refusal.Refusal.{Refusal}
use Rattle.pps_types.specs.Content.{Content}
use Rattle.pps_types.specs.Checks.{Check, first_refusal, reaches_memory}
use Rattle.pps_types.specs.Plan.{Move, effect, all_checks_of, apply_all_seen}
use Rattle.pps_types.specs.Stands.{StepsSeen}
use Rattle.whole_texts.specs.Followed as following
use Rattle.service_state.specs.Tables.{Tabled, content_in}
use Rattle.service_state.specs.Following.{CanFollowAll}
use Rattle.service_state.specs.Refused.{Fails, all_request_checks}
use Rattle.pps_engine.specs.declared.done.Done.{Done}
use Rattle.pps_engine.specs.declared.planned.Pending.{Pending}
use Rattle.pps_engine.specs.declared.planned.Planned.{Planned}
use Rattle.pps_engine.specs.Doing.{moves_in, CanDo}
use Rattle.pps_engine.specs.EventTold.{takes_memory}

-- No check refuses it; it is answered so and does this, for which all is ready; and where records are told, memory may be wanting.
pub record IsDoneBy (checks : List Check) (effect : Outcome × List Move) (t : Tabled) (d : Done) : Type 0 where
  pub passes : first_refusal checks ≡ None
  pub does : effect ≡ (d.reply, moves_in d.doing t)
  pub ready : CanDo d.doing t
  pub wants : takes_memory d.doing ≡ true → reaches_memory checks ≡ true

-- a connection is to attach: all else wants an attached one
abbrev pub is_attach : Request → Bool
is_attach Attach = true
is_attach request = false

-- the event that a connection attaches
abbrev pub attach_by : ℕ → Event
attach_by conn = record { conn = conn; request = Attach }

-- what an attached connection asks is done
abbrev pub IsAsked : Content → ℕ → Request → Tabled → Done → Type 0
IsAsked c conn request t d = IsDoneBy (all_request_checks c conn request) (effect c conn request) t d

-- an event is done
abbrev pub IsDone : Content → Event → Tabled → Done → Type 0
IsDone c e t d = IsDoneBy (all_checks_of c e) (effect c e.conn e.request) t d

-- it is refused
abbrev pub IsRefusedTo : Content → ℕ → Request → Refusal → Type 0
IsRefusedTo c conn request r = Fails (all_request_checks c conn request) r

abbrev pub IsRefused : Content → Event → Refusal → Type 0
IsRefused c e r = Fails (all_checks_of c e) r

-- what an attached connection asks of these tables is done in those
abbrev pub Serves : Tabled → ℕ → Request → Tabled → Done → Type 0
Serves old conn request new = λ d. IsAsked (content_in old) conn request new d

-- these tables refuse it
abbrev pub IsRefusedIn : Tabled → ℕ → Request → Refusal → Type 0
IsRefusedIn t conn request = λ r. IsRefusedTo (content_in t) conn request r

-- ---- with what follows

-- all moves of an event
abbrev pub moves_pending : Pending → Tabled → List Move
moves_pending p t = moves_in p.doing t ++ flat_map following.moves_of p.following.items

-- all that they want is there
pub record CanCarry (p : Pending) (t : Tabled) : Type 0 where
  pub does : CanDo p.doing t
  pub follows : CanFollowAll (apply_all_seen (moves_in p.doing t) (content_in t)) p.following.items

-- the answer and what stands then are the event's
abbrev pub Plans : Content → Event → Outcome → Pending → Tabled → Type 0
Plans c e reply p t = StepsSeen c e (Ok reply) (apply_all_seen (moves_pending p t) c)

-- the same of an event that is planned
abbrev pub IsPlanned : Content → Event → Planned → Tabled → Type 0
IsPlanned c e p t = Plans c e p.reply p.pending t

-- the refusal is the event's, and nothing changes
abbrev pub Refuses : Content → Event → Refusal → Type 0
Refuses c e r = StepsSeen c e (Err r) c
