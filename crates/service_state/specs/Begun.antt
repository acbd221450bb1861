-- What an event begins with, gathered: shares aside, and the room that its records want.
use Rattle.std.specs.Prelude.{◌≡◌, ◌⊎◌, List, [], ◌∷◌, ◌++◌, Bool, true, Option, Some, None, map, length}
use Rattle.std.specs.List.{AllByRecursion}
use Rattle.pps_types.specs.declared.refusal.Refusal.{Refusal}
use Rattle.pps_types.specs.declared.refusal.Refusal.TheVariants.{OutOfMemory, TableFull}
use Rattle.pps_types.specs.History.{Entry}
use Rattle.service_laws.specs.SettlingTargets.{last_number_passed}
use Rattle.service_state.specs.declared.beginning.Beginning.{Beginning}
use Rattle.service_state.specs.declared.beginning.Beginning.TheVariants.{Closes, AppendsRecord}
use Rattle.service_state.specs.Beginning.{IsSharedBy, entries_in}
use Rattle.service_state.specs.Tables.{Tabled, content_in}

-- the same without the shares of its record
abbrev pub bare : Beginning → Beginning
bare (Closes conn handle parked) = Closes conn handle parked
bare (AppendsRecord told) = AppendsRecord (record { entry = told.entry; count = 0 })

-- a record is told, where there is one
abbrev pub telling : Option Entry → List Beginning
telling None = []
telling (Some e) = AppendsRecord (record { entry = e; count = 0 }) ∷ []

-- ---- one after the other

-- this is added to what was begun, but for shares
abbrev pub Adds : List Beginning → List Beginning → List Beginning → Type 0
Adds old new more = map bare new ≡ map bare old ++ more

-- the shares of each record are enough
abbrev pub AreShared : Tabled → List Beginning → Type 0
AreShared t xs = AllByRecursion (IsSharedBy t.handles) xs

-- and where they were, they are
abbrev pub KeepsShares : Tabled → List Beginning → List Beginning → Type 0
KeepsShares t old new = AreShared t old → AreShared t new

-- ---- the room for it

-- its records would pass the last number
abbrev pub passes_last : Tabled → List Beginning → Bool
passes_last t xs = last_number_passed (content_in t) (length (entries_in xs)) 0 0

-- this is why there is no room for its records
abbrev pub RefusesRecords : Tabled → List Beginning → Refusal → Type 0
RefusesRecords t xs r = (r ≡ OutOfMemory) ⊎ ((r ≡ TableFull) × (passes_last t xs ≡ true))
