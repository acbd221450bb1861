-- What requests by a path do, where all their checks pass.
use Rattle.std.specs.Prelude.{◌≡◌, ℕ, List, [], ◌∷◌}
use Rattle.pps_types.specs.declared.event.Mode.{Mode}
use Rattle.pps_types.specs.declared.event.Request.TheVariants.{Open as OpenRequest, Unlink, Mkdir, List as ListRequest}
use Rattle.pps_types.specs.declared.outcome.Outcome.{Outcome}
use Rattle.pps_types.specs.declared.outcome.Outcome.TheVariants.{Done, Opened as OpenedHandle}
use Rattle.pps_types.specs.Names.{Path}
use Rattle.pps_types.specs.Plan.{MakesDirectory}
use Rattle.service_state.specs.Refused.{effect_in}
use Rattle.service_state.specs.Tables.{Tabled, content_in}
use Rattle.path_requests.specs.declared.planned_open.Opens.{Opens}
use Rattle.path_requests.specs.declared.unlinking.Unlinked.{Unlinked}
use Rattle.path_requests.specs.Planned.{moves_of}
use Rattle.path_requests.specs.Removed.{moves_in}

-- this is what an Open of that text does: its handle gets the next number
abbrev pub DoesOpen : Opens → ℕ → Mode → List ℕ → Tabled → Tabled → Type 0
DoesOpen o conn mode text old new = effect_in old conn (OpenRequest mode text) ≡ (OpenedHandle (content_in old).next_handle, moves_of o new)

-- this is what an Unlink of that text does
abbrev pub DoesUnlink : Unlinked → ℕ → List ℕ → Tabled → Type 0
DoesUnlink unlinked conn text t = effect_in t conn (Unlink text) ≡ (Done, moves_in unlinked)

-- a Mkdir of that text makes the directory at this path
abbrev pub DoesMkdir : Path → ℕ → List ℕ → Tabled → Type 0
DoesMkdir path conn text t = effect_in t conn (Mkdir text) ≡ (Done, MakesDirectory path ∷ [])

-- this is what a List of that text answers, and it changes nothing
abbrev pub DoesList : Outcome → ℕ → List ℕ → Tabled → Type 0
DoesList outcome conn text t = effect_in t conn (ListRequest text) ≡ (outcome, [])
