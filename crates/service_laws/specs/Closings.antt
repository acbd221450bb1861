-- The closing of several handles one after the other, by what stood before them all. Own.
use Rattle.std.specs.Prelude.{ℕ, List, [], ◌∷◌, ◌++◌, Bool, ◌&&◌, ◌==◌, if◌then◌else◌, is_some, Err}
use Rattle.std.specs.List.{list_any}
use Rattle.pps_types.specs.declared.refusal.Refusal.TheVariants.{BadHandle}
use Rattle.pps_types.specs.declared.outcome.Item.TheVariants.{ReadDone}
use Rattle.pps_types.specs.Reading.{OpenHandle}
use Rattle.pps_types.specs.Rests.{Progress}
use Rattle.pps_types.specs.Content.{Content}
use Rattle.pps_types.specs.Checks.{is_server}
use Rattle.pps_types.specs.Plan.{Move, Closes, Queues, parting}

-- the object's server is among the handles that closed before, and so it is dead
abbrev pub server_closed : List (OpenHandle Progress) → ℕ → Bool
server_closed before object = list_any (λ handle. is_server handle.kind && (handle.target == object)) before

-- the closing of a handle behind these others
abbrev pub closing_behind : Content → List (OpenHandle Progress) → OpenHandle Progress → List Move
closing_behind c before handle =
    Closes handle.number ∷ (if is_some handle.parked then Queues handle.connection (ReadDone handle.number (Err BadHandle)) ∷ [] else [])
    ++ (if server_closed before handle.target then [] else parting c handle handle.kind)

-- the closings of handles, each behind those before it and behind these others
abbrev pub closings_behind : Content → List (OpenHandle Progress) → List (OpenHandle Progress) → List Move
closings_behind c before [] = []
closings_behind c before (handle ∷ handles) = closing_behind c before handle ++ closings_behind c (handle ∷ before) handles
