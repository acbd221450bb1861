-- What a change in place leaves.
use Rattle.std.specs.Prelude.{◌≡◌, ◌<◌, ◌⊎◌, ℕ, List, Bool, true, None}
use Rattle.pps_types.specs.declared.found.Found.{Found}
use Rattle.sub_reader.specs.declared.opening.Opening.{Opening}
use Rattle.pps_types.specs.Plan.{Move, apply_all_seen}
use Rattle.notify_box.specs.Standing.{RoomedConnections, HasHandleRoom}
use Rattle.open_handles.specs.Whole.{Whole, KeepsTable, KeepsSites, KeepsPlaces, SuitsAt, room_at, site_at}
use Rattle.service_state.specs.Tables.{Tabled, content_in}

-- what stands is what these moves make of it
abbrev pub Moves : List Move → Tabled → Tabled → Type 0
Moves ms old new = content_in new ≡ apply_all_seen ms (content_in old)

-- The places for handles stay, and the room for more.
pub record KeepsHandleRoom (old new : Tabled) : Type 0 where
  pub sites : KeepsSites old.handles new.handles
  pub rows : KeepsTable old.handles.rows new.handles.rows
  pub places : KeepsPlaces old.handles new.handles
  pub connections : (conn count : ℕ) → HasHandleRoom conn count old.connections → HasHandleRoom conn count new.connections

-- each place for handles stays, or is gone
abbrev pub KeepsOrDrops : Whole → Whole → Type 0
KeepsOrDrops old new = (f : Found) → (site_at f new ≡ site_at f old) ⊎ (site_at f new ≡ None)

-- a connection has room for one handle more
abbrev pub HasRoomForHandle : ℕ → RoomedConnections → Type 0
HasRoomForHandle conn connections = HasHandleRoom conn 1 connections

-- A handle can be opened: it has the next number and suits, and there is room for it.
pub record CanOpen (f : Found) (o : Opening) (t : Tabled) : Type 0 where
  pub number : o.number ≡ (content_in t).next_handle
  pub room : 0 < t.handles.rows.room
  pub place : 0 < room_at f t.handles
  pub suits : SuitsAt o.kind f t.handles
  pub connection : HasHandleRoom o.connection 1 t.connections

-- where that holds, each handle that could be opened before still can be
abbrev pub KeepsOpeningsIf : Bool → Tabled → Tabled → Type 0
KeepsOpeningsIf holds old new = (f : Found) (o : Opening) → holds ≡ true → CanOpen f o old → CanOpen f o new

-- where that holds, objects and directories stay, and room for more
abbrev pub KeepsSitesIf : Bool → Tabled → Tabled → Type 0
KeepsSitesIf holds old new = holds ≡ true → KeepsSites old.handles new.handles
