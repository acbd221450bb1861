-- Attached connections in rising number, and the room that was taken for more.
use Rattle.std.specs.Prelude.{◌≡◌, ◌≢◌, ℕ, ◌<◌, ◌≤◌, List, [], Bool, false, ◌==◌, if◌then◌else◌, Option, None, Err, is_some, option_map, IfSome, IsSomeAnd, IsTrue, map, find}
use Rattle.std.specs.Option.{option_map_or}
use Rattle.std.specs.List.{AllByRecursion}
use Rattle.pps_types.specs.Outbox.{Outbox, empty_outbox, is_armed, is_parked, arm_refusal, park_refusal, finished_in}
use Rattle.pps_types.specs.declared.refusal.Refusal.TheVariants.{BadHandle}
use Rattle.pps_types.specs.Plan.{on_first, without_first}
use Rattle.notify_box.specs.Roomed.{Roomed, IsReadyToArm, IsReadyToPark}

-- What stands of an attached connection: its outbox, and its open handles in rising number.
pub record Standing : Type 0 where
  pub number : ℕ
  pub outbox : Outbox
  pub handles : List ℕ

-- The same with the room of its outbox, and for how many more handles there is memory.
pub record RoomedConnection : Type 0 where
  pub number : ℕ
  pub roomed : Roomed
  pub handles : List ℕ
  pub handle_room : ℕ

-- All of them, and for how many more connections there is memory.
pub record RoomedConnections : Type 0 where
  pub connections : List RoomedConnection
  pub room : ℕ

abbrev pub number_of : RoomedConnection → ℕ
number_of x = x.number

-- ---- what stands

abbrev pub standing_of : RoomedConnection → Standing
standing_of x = record { number = x.number; outbox = x.roomed.outbox; handles = x.handles }

abbrev pub standing_in : RoomedConnections → List Standing
standing_in all = map standing_of all.connections

-- ---- one connection

abbrev pub is_numbered : ℕ → Standing → Bool
is_numbered conn x = x.number == conn

abbrev pub standing_at : ℕ → List Standing → Option Standing
standing_at conn xs = find (is_numbered conn) xs

abbrev pub is_attached : ℕ → List Standing → Bool
is_attached conn xs = is_some (standing_at conn xs)

-- where it is not attached, nothing is to come
abbrev pub outbox_of : ℕ → List Standing → Outbox
outbox_of conn xs = option_map_or (λ x. x.outbox) (standing_at conn xs) empty_outbox

-- and no handle is open
abbrev pub handles_of : ℕ → List Standing → List ℕ
handles_of conn xs = option_map_or (λ x. x.handles) (standing_at conn xs) []

-- the handle is above all that the connection has
abbrev pub IsAboveHandles : ℕ → ℕ → List Standing → Type 0
IsAboveHandles conn handle xs = AllByRecursion (λ h. h < handle) (handles_of conn xs)

-- how many places the connection takes: one, where it is attached
abbrev pub place_count : ℕ → List Standing → ℕ
place_count conn xs = if is_attached conn xs then 1 else 0

-- what the connection has to come
abbrev pub outbox_in : ℕ → RoomedConnections → Outbox
outbox_in conn all = outbox_of conn (standing_in all)

-- where it is attached, a read is parked on the handle
abbrev pub HasParked : ℕ → ℕ → List Standing → Type 0
HasParked conn handle xs = IsTrue (is_attached conn xs) → IsTrue (is_parked (outbox_of conn xs) handle)

-- ---- its room

abbrev pub connection_at : ℕ → RoomedConnections → Option RoomedConnection
connection_at conn all = find (λ x. x.number == conn) all.connections

abbrev pub roomed_at : ℕ → RoomedConnections → Option Roomed
roomed_at conn all = option_map (λ x. x.roomed) (connection_at conn all)

abbrev pub handle_room_at : ℕ → RoomedConnections → Option ℕ
handle_room_at conn all = option_map (λ x. x.handle_room) (connection_at conn all)

-- where it is not attached, no room is wanted

abbrev pub CanArm : ℕ → ℕ → RoomedConnections → Type 0
CanArm conn handle all = IfSome (roomed_at conn all) (λ r. IsReadyToArm r handle)

abbrev pub CanPark : ℕ → ℕ → RoomedConnections → Type 0
CanPark conn handle all = IfSome (roomed_at conn all) (λ r. IsReadyToPark r handle)

abbrev pub HasHandleRoom : ℕ → ℕ → RoomedConnections → Type 0
HasHandleRoom conn count all = IfSome (handle_room_at conn all) (λ room. count ≤ room)

-- No room is left for a pulse on the handle, on which none is armed, and nothing else refuses one.
abbrev pub LacksPulseRoom : ℕ → Roomed → Type 0
LacksPulseRoom handle r = (arm_refusal r.outbox handle ≡ None) × (is_armed r.outbox handle ≡ false) × (r.pulse_room ≡ 0)

-- No room is left for a parked read, and nothing else refuses one.
abbrev pub LacksReadRoom : ℕ → Roomed → Type 0
LacksReadRoom handle r = (park_refusal r.outbox handle ≡ None) × (r.read_room ≡ 0)

-- it is attached, and its outbox lacks room for a pulse on the handle
abbrev pub LacksPulseRoomAt : ℕ → ℕ → RoomedConnections → Type 0
LacksPulseRoomAt conn handle all = IsSomeAnd (roomed_at conn all) (LacksPulseRoom handle)

-- it is attached, and its outbox lacks room for a parked read
abbrev pub LacksReadRoomAt : ℕ → ℕ → RoomedConnections → Type 0
LacksReadRoomAt conn handle all = IsSomeAnd (roomed_at conn all) (LacksReadRoom handle)

-- each has room for as many handles as before
abbrev pub KeepsHandleRooms : RoomedConnections → RoomedConnections → Type 0
KeepsHandleRooms old new = (each count : ℕ) → HasHandleRoom each count old → HasHandleRoom each count new

-- no room for handles changed
abbrev pub AreHandleRoomsSame : RoomedConnections → RoomedConnections → Type 0
AreHandleRoomsSame old new = (each : ℕ) → handle_room_at each new ≡ handle_room_at each old

-- ---- changes of one connection, where it is attached

abbrev pub with_outbox : ℕ → (Outbox → Outbox) → List Standing → List Standing
with_outbox conn change xs = on_first (is_numbered conn) (λ x. record x { outbox = change x.outbox }) xs

abbrev pub with_handles : ℕ → (List ℕ → List ℕ) → List Standing → List Standing
with_handles conn change xs = on_first (is_numbered conn) (λ x. record x { handles = change x.handles }) xs

-- all but this connection
abbrev pub without_numbered : ℕ → List Standing → List Standing
without_numbered conn xs = without_first (is_numbered conn) xs

-- all handles but this one
abbrev pub without_handle : ℕ → List ℕ → List ℕ
without_handle handle hs = without_first (λ h. h == handle) hs

-- where a read is parked on the handle, it is refused, since the handle closes
abbrev pub parked_ended : Outbox → ℕ → Outbox
parked_ended box handle = if is_parked box handle then finished_in box handle (Err BadHandle) else box

-- Nothing of another connection changed, nor any room of it.
abbrev pub AreOthersSame : ℕ → RoomedConnections → RoomedConnections → Type 0
AreOthersSame conn old new = (other : ℕ) → other ≢ conn → connection_at other new ≡ connection_at other old

-- The connection's outbox changed, and nothing else but the room of that outbox.
pub record ChangesOutbox (conn : ℕ) (change : Outbox → Outbox) (old new : RoomedConnections) : Type 0 where
  pub standing : standing_in new ≡ with_outbox conn change (standing_in old)
  pub others : AreOthersSame conn old new
  pub handle_rooms : (each : ℕ) → handle_room_at each new ≡ handle_room_at each old
  pub room : new.room ≡ old.room

-- The connection's handles changed, and nothing else but the room for more of them.
pub record ChangesHandles (conn : ℕ) (change : List ℕ → List ℕ) (old new : RoomedConnections) : Type 0 where
  pub standing : standing_in new ≡ with_handles conn change (standing_in old)
  pub others : AreOthersSame conn old new
  pub roomed : (each : ℕ) → roomed_at each new ≡ roomed_at each old
  pub room : new.room ≡ old.room

-- The connection's room changed, and nothing else.
pub record ChangesRoom (conn : ℕ) (old new : RoomedConnections) : Type 0 where
  pub standing : standing_in new ≡ standing_in old
  pub others : AreOthersSame conn old new
  pub room : new.room ≡ old.room
