-- What a service answers: the checks of a request and its effect, over the tables.
use Rattle.std.specs.Prelude.{◌≡◌, ◌⊎◌, ℕ, List, [], ◌∷◌, ◌++◌, Bool, true, Option, None, Some, is_some, IfSome, option_map, Result}
use Rattle.pps_types.specs.declared.event.Request.{Request}
use Rattle.pps_types.specs.declared.line.Line.{Line}
use Rattle.pps_types.specs.declared.outcome.Outcome.{Outcome}
use Rattle.pps_types.specs.declared.refusal.Refusal.{Refusal}
use Rattle.pps_types.specs.declared.refusal.Refusal.TheVariants.{OutOfMemory, TableFull}
use Rattle.pps_types.specs.Names.{refusal_of}
use Rattle.pps_types.specs.Reading.{OpenHandle}
use Rattle.pps_types.specs.Rests.{Progress}
use Rattle.pps_types.specs.Outbox.{arm_refusal, park_refusal}
use Rattle.pps_types.specs.Content.{Content, LiveObject, own_handle, object_numbered, outbox_of}
use Rattle.pps_types.specs.Checks.{Check, Refuse, first_refusal, reaches_memory, request_checks}
use Rattle.pps_types.specs.Plan.{Move, apply_all_seen, effect, passes_last_number}
use Rattle.pps_types.specs.Refused.{IsRefusedAs}
use Rattle.name_table.specs.Standing.{Named, known_of, placed_at, change_refusal}
use Rattle.service_state.specs.Tables.{Tabled, content_in}

-- ---- checks

-- none of them refuses
abbrev pub AllPass : List Check → Type 0
AllPass cs = first_refusal cs ≡ None

-- this is the first that refuses
abbrev pub RefusedBy : List Check → Refusal → Type 0
RefusedBy cs r = first_refusal cs ≡ Some r

-- what passes them takes memory
abbrev pub TakesMemory : List Check → Type 0
TakesMemory cs = reaches_memory cs ≡ true

-- a check that fails, or want of memory behind the mark
abbrev pub Fails : List Check → Refusal → Type 0
Fails cs r = (first_refusal cs ≡ Some r) ⊎ ((r ≡ OutOfMemory) × (reaches_memory cs ≡ true))

-- all checks of what an attached connection asks, the one on the last numbers behind them
abbrev pub all_request_checks : Content → ℕ → Request → List Check
all_request_checks c conn request =
    request_checks c conn request ++ Refuse (passes_last_number (apply_all_seen (effect c conn request).1 c)) TableFull ∷ []

-- ---- over the tables

-- the checks of what an attached connection asks
abbrev pub checks_in : Tabled → ℕ → Request → List Check
checks_in t conn request = request_checks (content_in t) conn request

-- the same with the one on the last numbers
abbrev pub all_checks_in : Tabled → ℕ → Request → List Check
all_checks_in t conn request = all_request_checks (content_in t) conn request

-- what it does, where they pass: the outcome and the moves
abbrev pub effect_in : Tabled → ℕ → Request → Outcome × List Move
effect_in t conn request = effect (content_in t) conn request

-- the connection's own handle of that number
abbrev pub own_handle_in : Tabled → ℕ → ℕ → Option (OpenHandle Progress)
own_handle_in t conn handle = own_handle (content_in t) conn handle

-- the object of that number, where it is alive
abbrev pub live_object_in : Tabled → ℕ → Option LiveObject
live_object_in t object = object_numbered (content_in t) object

-- what the names have under that number is that object
abbrev pub IsKnownIn : Tabled → ℕ → Type 0
IsKnownIn t object = option_map known_of (placed_at object t.names) ≡ object_numbered (content_in t) object

-- the read that waits on the connection's own handle of that number, as its size, where one does
abbrev pub parked_in : Tabled → ℕ → ℕ → Option (Option ℕ)
parked_in t conn number = option_map (λ (handle : OpenHandle Progress). handle.parked) (own_handle (content_in t) conn number)

-- whether a read waits on that handle
abbrev pub is_parked_in : Tabled → ℕ → ℕ → Option Bool
is_parked_in t conn number = option_map (λ (handle : OpenHandle Progress). is_some handle.parked) (own_handle (content_in t) conn number)

-- the pulse that is armed on that handle, as its code and its value, where one is
abbrev pub armed_in : Tabled → ℕ → ℕ → Option (Option (ℕ × ℕ))
armed_in t conn number = option_map (λ (handle : OpenHandle Progress). handle.armed) (own_handle (content_in t) conn number)

-- whether a pulse is armed on it
abbrev pub is_armed_in : Tabled → ℕ → ℕ → Option Bool
is_armed_in t conn number = option_map (λ (handle : OpenHandle Progress). is_some handle.armed) (own_handle (content_in t) conn number)

-- why no pulse can be armed on the handle of the connection, if none can
abbrev pub arm_refusal_in : Tabled → ℕ → ℕ → Option Refusal
arm_refusal_in t conn handle = arm_refusal (outbox_of (content_in t) conn) handle

-- why no read can be parked on the handle of the connection, if none can
abbrev pub park_refusal_in : Tabled → ℕ → ℕ → Option Refusal
park_refusal_in t conn handle = park_refusal (outbox_of (content_in t) conn) handle

-- ---- results

-- its refusal is that of the first check that refuses, and none where all pass
abbrev pub IsCheckedBy : {X : Type 0} → Result X Refusal → List Check → Type 0
IsCheckedBy result cs = refusal_of result ≡ first_refusal cs

-- where memory does not lack, it is refused if the object would pass a limit after these lines, and only then
abbrev pub IsRefusedAtLimits : {X : Type 0} → Result X Refusal → ℕ → List Line → Named → Type 0
IsRefusedAtLimits result object lines n = IfSome (placed_at object n) (λ x. IsRefusedAs result (change_refusal lines x))
