-- The moves that a change in place stands for.
use Rattle.std.specs.Prelude.{ℕ, List, [], ◌∷◌, Bool, if◌then◌else◌, None, Err, Result}
use Rattle.pps_types.specs.declared.found.Found.{Found}
use Rattle.pps_types.specs.declared.refusal.Refusal.{Refusal}
use Rattle.pps_types.specs.declared.refusal.Refusal.TheVariants.{BadHandle}
use Rattle.pps_types.specs.declared.outcome.Item.TheVariants.{Pulse as PulseItem, ReadDone}
use Rattle.pps_types.specs.Outbox.{PulseOf}
use Rattle.pps_types.specs.Plan.{Move, Opens, Closes, Queues, Parks, Arms}
use Rattle.sub_reader.specs.declared.opening.Opening.{Opening}
use Rattle.sub_reader.specs.Opened.{opened, number_of}
use Rattle.open_handles.specs.Whole.{name_at}
use Rattle.service_state.specs.Tables.{Tabled}

-- a handle opens on that object or directory, under its name
abbrev pub opening_on : Found → Opening → Tabled → List Move
opening_on found opening t = Opens (opened (number_of found) (name_at found t.handles) opening) ∷ []

-- a handle closes, and the read that waits on it ends, where one does
abbrev pub closing : ℕ → ℕ → Bool → List Move
closing conn number parked = Closes number ∷ (if parked then Queues conn (ReadDone number (Err BadHandle)) ∷ [] else [])

-- its pulse is queued, and is armed no more
abbrev pub firing : ℕ → ℕ → PulseOf → List Move
firing conn number pulse = Arms number None ∷ Queues conn (PulseItem pulse.0 pulse.1) ∷ []

-- the read that waits on it has its reply
abbrev pub finishing : ℕ → ℕ → Result (List ℕ) Refusal → List Move
finishing conn number result = Parks number None ∷ Queues conn (ReadDone number result) ∷ []
