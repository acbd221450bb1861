-- What is checked of requests by a path, over the tables.
use Rattle.std.specs.Prelude.{ℕ, List, Some}
use Rattle.pps_types.specs.declared.event.Mode.{Mode}
use Rattle.pps_types.specs.declared.event.Request.{Request}
use Rattle.pps_types.specs.declared.event.Request.TheVariants.{Open as OpenRequest}
use Rattle.pps_types.specs.declared.found.Found.{Found}
use Rattle.pps_types.specs.declared.found.Found.TheVariants.{Object as FoundObject}
use Rattle.pps_types.specs.declared.refusal.Refusal.{Refusal}
use Rattle.pps_types.specs.Names.{Path}
use Rattle.pps_types.specs.OpenText.{OpenSpec}
use Rattle.pps_types.specs.Checks.{Check, name_checks, unlink_found}
use Rattle.service_state.specs.Refused.{AllPass, TakesMemory, Fails, all_checks_in}
use Rattle.service_state.specs.Tables.{Tabled, content_in}

-- ---- an Open

-- all checks of an Open of that text
abbrev pub open_checks_in : Tabled → ℕ → Mode → List ℕ → List Check
open_checks_in t conn mode text = all_checks_in t conn (OpenRequest mode text)

-- its checks where its path leads to that object, which is alive
abbrev pub alive_checks_in : Tabled → Mode → OpenSpec → ℕ → List Check
alive_checks_in t mode spec object = name_checks (content_in t) mode spec (Some (FoundObject object))

-- ---- an Unlink

-- its checks where this is at the path
abbrev pub unlink_found_in : Tabled → Path → Found → List Check
unlink_found_in t path found = unlink_found (content_in t) path found

-- ---- for each connection

-- all checks of the request pass, whoever asks
abbrev pub PassesForAnyone : Tabled → Request → Type 0
PassesForAnyone t request = (conn : ℕ) → AllPass (all_checks_in t conn request)

-- what passes them takes memory, whoever asks
abbrev pub TakesMemoryForAnyone : Tabled → Request → Type 0
TakesMemoryForAnyone t request = (conn : ℕ) → TakesMemory (all_checks_in t conn request)

-- the request fails so, whoever asks
abbrev pub FailsForAnyone : Tabled → Request → Refusal → Type 0
FailsForAnyone t request r = (conn : ℕ) → Fails (all_checks_in t conn request) r
