-- How a handle closes.
use Rattle.std.specs.Prelude.{◌≡◌, ℕ, List, [], ◌∷◌, ◌++◌, Bool, true, false}
use Rattle.std.specs.List.{flat_map}
use Rattle.pps_types.specs.declared.event.Request.TheVariants.{Close, Detach}
use Rattle.pps_types.specs.declared.outcome.Outcome.TheVariants.{Done}
use Rattle.pps_types.specs.Plan.{Move, Leaves}
use Rattle.service_state.specs.declared.beginning.Beginning.{Beginning}
use Rattle.service_state.specs.declared.beginning.Beginning.TheVariants.{Closes}
use Rattle.service_state.specs.Moves.{closing}
use Rattle.service_state.specs.Beginning.{moves_of, CanBegin, AreReady}
use Rattle.service_state.specs.Tables.{Tabled, content_in}
use Rattle.service_state.specs.Refused.{TakesMemory, all_checks_in, effect_in}
use Rattle.handle_requests.specs.declared.closing.Closing.{Closing}
use Rattle.handle_requests.specs.declared.closing.Closing.TheVariants.{Alone, Telling}

-- what a handle's close changes
abbrev pub moves_in : ℕ → ℕ → Closing → List Move
moves_in conn handle (Alone parked) = closing conn handle parked
moves_in conn handle (Telling beginning) = flat_map moves_of beginning.items

-- somebody is told
abbrev pub is_telling : Closing → Bool
is_telling (Alone parked) = false
is_telling (Telling beginning) = true

-- it can be carried out
abbrev pub IsReady : ℕ → ℕ → Tabled → Closing → Type 0
IsReady conn handle t (Alone parked) = CanBegin (content_in t) (Closes conn handle parked)
IsReady conn handle t (Telling beginning) = AreReady beginning.items t

-- ---- what a request does

-- where somebody is told, the close of the handle takes memory
abbrev pub TakesMemoryToClose : Tabled → ℕ → ℕ → Closing → Type 0
TakesMemoryToClose t conn handle closing = is_telling closing ≡ true → TakesMemory (all_checks_in t conn (Close handle))

-- this is what the close of the handle does, where no check refuses it
abbrev pub IsCloseEffect : Tabled → ℕ → ℕ → Closing → Type 0
IsCloseEffect t conn handle closing = effect_in t conn (Close handle) ≡ (Done, moves_in conn handle closing)

-- all that the leaving of the connection does is this, and that it leaves
abbrev pub IsDetachEffect : Tabled → ℕ → List Beginning → Type 0
IsDetachEffect t conn xs = effect_in t conn Detach ≡ (Done, flat_map moves_of xs ++ Leaves conn ∷ [])
