-- What an event tells and closes.
use Rattle.std.specs.Prelude.{◌≡◌, ℕ, List, Option, Some, None}
use Rattle.std.specs.List.{filter_map, flat_map}
use Rattle.pps_types.specs.declared.event.Request.{Request}
use Rattle.pps_types.specs.History.{Entry}
use Rattle.pps_types.specs.Content.{Content}
use Rattle.pps_types.specs.Checks.{checks, first_refusal}
use Rattle.pps_types.specs.Plan.{Move, Closes, effect, apply_all_seen, settling}
use Rattle.service_laws.specs.Told.{entries_told}
use Rattle.whole_texts.specs.declared.following.Following.{Following}
use Rattle.whole_texts.specs.Followed.{moves_of}
use Rattle.service_state.specs.Following.{CanFollowAll}
use Rattle.service_state.specs.Tables.{Tabled, content_in}

-- the handle that a move closes
abbrev pub handle_closed : Move → Option ℕ
handle_closed (Closes number) = Some number
handle_closed _ = None

-- the handles that moves close, in order
abbrev pub handles_closed : List Move → List ℕ
handles_closed ms = filter_map handle_closed ms

-- A request that no check refuses tells just these records, and closes just these handles.
pub record IsToldBy (c : Content) (conn : ℕ) (request : Request) (entries : List Entry) (closing : List ℕ) : Type 0 where
  pub passes : first_refusal (checks c conn request) ≡ None
  pub told : entries_told (effect c conn request).1 ≡ entries
  pub closed : handles_closed (effect c conn request).1 ≡ closing

-- this follows from each request that no check refuses, and that tells these records and closes these handles
abbrev pub FollowsFrom : Tabled → List Entry → List ℕ → List Following → Type 0
FollowsFrom t entries closing following =
    (conn : ℕ) (request : Request) → IsToldBy (content_in t) conn request entries closing
    → flat_map moves_of following ≡ settling (content_in t) (apply_all_seen (effect (content_in t) conn request).1 (content_in t))

-- and it can be carried out after such a request
abbrev pub CanFollowFrom : Tabled → List Entry → List ℕ → List Following → Type 0
CanFollowFrom t entries closing following =
    (conn : ℕ) (request : Request) → IsToldBy (content_in t) conn request entries closing
    → CanFollowAll (apply_all_seen (effect (content_in t) conn request).1 (content_in t)) following
