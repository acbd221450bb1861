-- What an event does, as moves, and what it wants for that.
use Rattle.std.specs.Prelude.{◌≡◌, ◌+◌, ◌<◌, ◌≤◌, ◌^◌, ℕ, List, [], ◌∷◌, ◌++◌, true, false, Option, Some, None, IsSome, IfSome, is_some, map, option_map}
use Rattle.std.specs.List.{flat_map}
use Rattle.pps_types.specs.Outbox.{empty_outbox}
use Rattle.pps_types.specs.Reading.{OpenHandle}
use Rattle.pps_types.specs.Rests.{Progress}
use Rattle.pps_types.specs.Content.{Directory, is_attached, own_handle}
use Rattle.pps_types.specs.WellFormed.{RiseBetween, directory_numbered}
use Rattle.pps_types.specs.Plan as planning
use Rattle.pps_types.specs.Plan.{Move}
use Rattle.notify_box.specs.declared.outbox.Outbox.{Outbox}
use Rattle.notify_box.specs.Connections.{AreOwned}
use Rattle.notify_box.specs.Standing.{CanArm, CanPark}
use Rattle.name_table.specs.Listed.{IsBare}
use Rattle.name_table.specs.Standing.{IsReadyToMake}
use Rattle.sub_reader.specs.declared.opening.Pulse.{Pulse}
use Rattle.sub_reader.specs.Opened.{armed_pulse}
use Rattle.whole_texts.specs.declared.answer.Effect.{Effect}
use Rattle.whole_texts.specs.declared.answer.Effect.TheVariants.{Parks as EffectParks}
use Rattle.whole_texts.specs.Answered as reads
use Rattle.service_state.specs.declared.beginning.Beginning.TheVariants.{Closes as BeginningCloses}
use Rattle.service_state.specs.Beginning.{moves_of, AreReady, CanBegin}
use Rattle.service_state.specs.Moves.{closing}
use Rattle.service_state.specs.Tables.{Tabled, content_in}
use Rattle.path_requests.specs.Planned as opens
use Rattle.pps_engine.specs.declared.doing.Doing.{Doing}
use Rattle.pps_engine.specs.declared.doing.Doing.TheVariants.{Nothing, Begins, BeginsWith, Leaves, Opens, Attaches, Closes, Reads, Arms, Takes, Makes, Removes}

-- the moves that it stands for
abbrev pub moves_in : Doing → Tabled → List Move
moves_in Nothing t = []
moves_in (Begins beginning) t = flat_map moves_of beginning.items
moves_in (BeginsWith beginning) t = moves_of beginning
moves_in (Leaves beginning conn) t = flat_map moves_of beginning.items ++ planning.Leaves conn ∷ []
moves_in (Opens o) t = opens.moves_of o.value t
moves_in (Attaches conn outbox) t = planning.Attaches conn ∷ []
moves_in (Closes conn handle parked) t = closing conn handle parked
moves_in (Reads conn handle effect) t = reads.moves_of handle effect
moves_in (Arms conn handle pulse) t = planning.Arms handle (armed_pulse pulse) ∷ []
moves_in (Takes conn) t = planning.Takes conn ∷ []
moves_in (Makes path) t = planning.MakesDirectory path.items ∷ []
moves_in (Removes directory) t = planning.RemovesDirectory directory ∷ []

-- ---- what it wants

-- the connection has a number that one may have, and is not attached; its outbox is empty; and there is room for it
pub record CanAttach (conn : ℕ) (outbox : Outbox) (t : Tabled) : Type 0 where
  pub low : 1 ≤ conn
  pub high : conn < 1025
  pub absent : is_attached (content_in t) conn ≡ false
  pub owned : AreOwned (content_in t)
  pub empty : outbox.outbox ≡ empty_outbox
  pub room : 0 < t.connections.room

-- no read waits on the connection's own handle, and there is room for one
pub record CanWait (conn number : ℕ) (t : Tabled) : Type 0 where
  pub free : option_map (λ (handle : OpenHandle Progress). handle.parked) (own_handle (content_in t) conn number) ≡ Some None
  pub room : CanPark conn number t.connections

-- a read that leaves its handle so: it wants room where it waits
abbrev pub CanRead : ℕ → ℕ → Effect → Tabled → Type 0
CanRead conn handle (EffectParks size) t = CanWait conn handle t
CanRead conn handle effect t = Unit {0}

-- the handle is the connection's own, and there is room for a pulse that is to be armed on it
pub record CanNotice (conn handle : ℕ) (pulse : Option Pulse) (t : Tabled) : Type 0 where
  pub own : IsSome (own_handle (content_in t) conn handle)
  pub room : is_some pulse ≡ true → CanArm conn handle t.connections

-- the numbers of directories rise
abbrev pub DirectoriesRise : Tabled → Type 0
DirectoriesRise t = RiseBetween 0 (map (λ (d : Directory). d.number) (content_in t).directories) (content_in t).next_directory

-- the path is ready, there is a place for the directory's handles, and its number is none past the last
pub record CanMake (path : List (List ℕ)) (t : Tabled) : Type 0 where
  pub order : DirectoriesRise t
  pub ready : IsReadyToMake t.names path
  pub place : 0 < t.handles.directories.room
  pub last : (content_in t).next_directory + 1 < 2 ^ 64

-- nothing stands in the directory
pub record CanRemove (directory : ℕ) (t : Tabled) : Type 0 where
  pub order : DirectoriesRise t
  pub bare : IfSome (directory_numbered (content_in t) directory) (IsBare (content_in t))

-- all that it wants is there
abbrev pub CanDo : Doing → Tabled → Type 0
CanDo Nothing t = Unit {0}
CanDo (Begins beginning) t = AreReady beginning.items t
CanDo (BeginsWith beginning) t = AreReady (beginning ∷ []) t
CanDo (Leaves beginning conn) t = AreReady beginning.items t
CanDo (Opens o) t = opens.IsReady o.value t
CanDo (Attaches conn outbox) t = CanAttach conn outbox.value t
CanDo (Closes conn handle parked) t = CanBegin (content_in t) (BeginningCloses conn handle parked)
CanDo (Reads conn handle effect) t = CanRead conn handle effect t
CanDo (Arms conn handle pulse) t = CanNotice conn handle pulse t
CanDo (Takes conn) t = Unit {0}
CanDo (Makes path) t = CanMake path.items t
CanDo (Removes directory) t = CanRemove directory t
