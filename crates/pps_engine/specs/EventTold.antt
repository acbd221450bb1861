-- The records that an event tells, the handles that it closes, and what follows from these.
use Rattle.std.specs.Prelude.{◌≡◌, ℕ, List, [], ◌∷◌, Bool, true, false, Option, Some, None}
use Rattle.std.specs.List.{filter_map, flat_map}
use Rattle.pps_types.specs.declared.event.Request.{Request}
use Rattle.pps_types.specs.History.{Entry}
use Rattle.pps_types.specs.Content.{Content}
use Rattle.pps_types.specs.Plan.{effect, apply_all_seen, settling}
use Rattle.whole_texts.specs.declared.following.Following.{Following}
use Rattle.whole_texts.specs.Followed.{moves_of}
use Rattle.pps_engine.specs.SettlingTold.{IsToldBy}
use Rattle.service_state.specs.declared.beginning.Beginning.{Beginning}
use Rattle.service_state.specs.declared.beginning.Beginning.TheVariants.{Closes as BeginningCloses, AppendsRecord}
use Rattle.service_state.specs.Beginning.{entries_in}
use Rattle.service_state.specs.Following.{CanFollowAll}
use Rattle.service_state.specs.Tables.{Tabled, content_in}
use Rattle.path_requests.specs.declared.planned_open.Opens.{Opens as OpensAs}
use Rattle.path_requests.specs.declared.planned_open.Opens.TheVariants.{OnFound, Creating, Replacing}
use Rattle.pps_engine.specs.declared.doing.Doing.{Doing}
use Rattle.pps_engine.specs.declared.doing.Doing.TheVariants.{Begins, BeginsWith, Leaves, Opens, Closes}

-- the handle that closes
abbrev pub closed_by : Beginning → Option ℕ
closed_by (BeginningCloses conn handle parked) = Some handle
closed_by (AppendsRecord told) = None

abbrev pub closes_in : List Beginning → List ℕ
closes_in beginning = filter_map closed_by beginning

-- ---- of an open

-- the number of the handle that opens
abbrev pub number_opened : OpensAs → ℕ
number_opened (OnFound beginning found opening) = opening.number
number_opened (Creating object opening) = opening.number
number_opened (Replacing replacement opening) = opening.number

abbrev pub entries_opened : OpensAs → List Entry
entries_opened (OnFound beginning found opening) = entries_in beginning.items
entries_opened (Creating object opening) = object.creation.entry ∷ []
entries_opened (Replacing replacement opening) = replacement.deletion.entry ∷ replacement.creation.entry ∷ []

abbrev pub closes_opened : OpensAs → List ℕ
closes_opened (OnFound beginning found opening) = closes_in beginning.items
closes_opened opens = []

-- ---- of whatever is done

abbrev pub entries_of : Doing → List Entry
entries_of (Begins beginning) = entries_in beginning.items
entries_of (BeginsWith beginning) = entries_in (beginning ∷ [])
entries_of (Leaves beginning conn) = entries_in beginning.items
entries_of (Opens opens) = entries_opened opens.value
entries_of d = []

abbrev pub closes_of : Doing → List ℕ
closes_of (Begins beginning) = closes_in beginning.items
closes_of (BeginsWith beginning) = closes_in (beginning ∷ [])
closes_of (Leaves beginning conn) = closes_in beginning.items
closes_of (Opens opens) = closes_opened opens.value
closes_of (Closes conn handle parked) = handle ∷ []
closes_of d = []

-- records are told, so that what follows may take memory
abbrev pub takes_memory : Doing → Bool
takes_memory (Begins beginning) = true
takes_memory (BeginsWith beginning) = true
takes_memory (Leaves beginning conn) = true
takes_memory (Opens opens) = true
takes_memory d = false

-- ---- what follows

-- This follows from a request that tells these records and closes these handles, and can follow behind it.
pub record IsSettled (c : Content) (entries : List Entry) (closing : List ℕ) (following : List Following) : Type 0 where
  pub follows : (conn : ℕ) (request : Request) → IsToldBy c conn request entries closing → flat_map moves_of following ≡ settling c (apply_all_seen (effect c conn request).1 c)
  pub can : (conn : ℕ) (request : Request) → IsToldBy c conn request entries closing → CanFollowAll (apply_all_seen (effect c conn request).1 c) following

-- this follows from the steps that an event begins with
abbrev pub SettlesSteps : Tabled → List Beginning → List Following → Type 0
SettlesSteps t beginning following = IsSettled (content_in t) (entries_in beginning) (closes_in beginning) following

-- this follows from an open
abbrev pub SettlesOpen : Tabled → OpensAs → List Following → Type 0
SettlesOpen t opens following = IsSettled (content_in t) (entries_opened opens) (closes_opened opens) following

-- this follows from whatever is done
abbrev pub Settles : Tabled → Doing → List Following → Type 0
Settles t d following = IsSettled (content_in t) (entries_of d) (closes_of d) following
