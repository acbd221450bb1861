-- What follows for the handles that an event's records wake, as changes.
use Rattle.std.specs.Prelude.{◌≡◌, ◌&&◌, ℕ, List, [], Bool, true, false, Option, Result, is_some, OnOk, Vec}
use Rattle.std.specs.Option.{option_map_or}
use Rattle.std.specs.List.{flat_map}
use Rattle.pps_types.specs.declared.refusal.Refusal.{Refusal}
use Rattle.pps_types.specs.History.{Entry}
use Rattle.pps_types.specs.Reading.{OpenHandle, Member, is_directory_kind}
use Rattle.pps_types.specs.Rests.{Progress}
use Rattle.pps_types.specs.Plan.{Move}
use Rattle.pps_types.specs.SettlingReplies.{gives_everything, pulse_and_reply}
use Rattle.name_table.specs.Standing.{Named, named_content}
use Rattle.sub_reader.specs.Opened.{handle_at}
use Rattle.whole_texts.specs.declared.following.Following.{Following}
use Rattle.whole_texts.specs.Woken.{Waiting, IsWoken}
use Rattle.whole_texts.specs.Followed.{moves_of, Adds}
use Rattle.open_handles.specs.Whole.{Whole, handles_in}
use Rattle.service_state.specs.Tables.{Tabled, content_in}
use Rattle.pps_engine.specs.Behind.{follows_behind, follows_numbered}

-- a read waits on it, and the late reply is everything of its target
abbrev pub needs_everything : Option ℕ → OpenHandle Progress → List Entry → Bool
needs_everything parked handle es = is_some parked && gives_everything handle es

-- if it is done, what follows for a handle whose late reply is not everything comes to the end: the records are enough for it
abbrev pub AddsByRecords : {A X : Type 0} → Waiting → List Entry → Vec Following A → Vec Following A → Result X Refusal → Type 0
AddsByRecords woken es old new result =
    (handle : OpenHandle Progress) (dead : Bool) (members : List Member) → IsWoken woken handle → (is_some handle.parked && gives_everything handle es) ≡ false
    → OnOk result (Adds old new (pulse_and_reply handle es dead members))

-- for the handle, if it is on the object of that number and name
abbrev pub ForWokenObject : Waiting → ℕ → List ℕ → (OpenHandle Progress → Type 0) → Type 0
ForWokenObject woken object name P =
    (handle : OpenHandle Progress) → IsWoken woken handle → handle.target ≡ object → handle.name ≡ name → is_directory_kind handle.kind ≡ false → P handle

-- for the handle, if it is on the directory of that number
abbrev pub ForWokenDirectory : Waiting → ℕ → (OpenHandle Progress → Type 0) → Type 0
ForWokenDirectory woken directory P =
    (handle : OpenHandle Progress) → IsWoken woken handle → handle.target ≡ directory → is_directory_kind handle.kind ≡ true → P handle

-- what follows for a handle, by the names of the service
abbrev pub follows_by : Named → List Entry → OpenHandle Progress → List Move
follows_by names es handle = follows_behind (named_content names) es handle

-- the same for the handle of that number, where it is open
abbrev pub follows_at : Named → List Entry → ℕ → Whole → List Move
follows_at names es number handles = option_map_or (follows_behind (named_content names) es) (handle_at number (handles_in handles)) []

-- this follows for these handles, one after the other, but for those that close
abbrev pub FollowsEach : Tabled → List Entry → List ℕ → List ℕ → List Following → Type 0
FollowsEach t es closing woken following = flat_map moves_of following ≡ flat_map (follows_numbered (content_in t) es closing) woken
