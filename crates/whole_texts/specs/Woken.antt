-- A handle that records wake, and what it is told of its target.
use Rattle.std.specs.Prelude.{◌≡◌, ℕ, List, Bool, true, not, Option, is_some}
use Rattle.pps_types.specs.History.{Entry}
use Rattle.pps_types.specs.Reading.{OpenHandle, Member, Answer}
use Rattle.pps_types.specs.Rests.{Progress}
use Rattle.pps_types.specs.SettlingReplies.{gives_everything, late_answer}
use Rattle.sub_reader.specs.declared.opening.Opening.{Opening}
use Rattle.sub_reader.specs.declared.opening.Pulse.{Pulse}
use Rattle.sub_reader.specs.Opened.{opened, as_opened, armed_pulse}

-- the number of the object or directory that it is on, what its open fixed, and what waits on it
pub record Waiting : Type 0 where
  pub target : ℕ
  pub opening : Opening
  pub parked : Option ℕ
  pub armed : Option Pulse

-- a handle on that target, and what waits on it
abbrev pub waiting_on : ℕ → Opening → Option ℕ → Option Pulse → Waiting
waiting_on target opening parked armed = record { target = target; opening = opening; parked = parked; armed = armed }

-- an event's records, and the target of a handle as it stands behind them
pub record Behind : Type 0 where
  pub entries : List Entry
  pub alive : Bool
  pub members : List Member

-- the handle is on the object or directory of that number, and its open fixed this
abbrev pub IsOpened : ℕ → Opening → OpenHandle Progress → Type 0
IsOpened target o handle = as_opened handle ≡ opened target handle.name o

-- for each handle that was so opened
abbrev pub ForOpened : ℕ → Opening → (OpenHandle Progress → Type 0) → Type 0
ForOpened target o P = (handle : OpenHandle Progress) → IsOpened target o handle → P handle

-- the handle is this one, whatever it has seen
pub record IsWoken (w : Waiting) (handle : OpenHandle Progress) : Type 0 where
  pub opened : IsOpened w.target w.opening handle
  pub parked : handle.parked ≡ w.parked
  pub armed : handle.armed ≡ armed_pulse w.armed

-- Its target is dead or alive and has these members, where the late reply to it is everything: else none of this is told.
abbrev pub Shows : Behind → OpenHandle Progress → Bool → List Member → Type 0
Shows b handle dead members = gives_everything handle b.entries ≡ true → (b.alive ≡ not dead) × (b.members ≡ members)

-- the same, where a read waits on it: else there is no late reply
abbrev pub ShowsWaiting : Behind → OpenHandle Progress → Bool → List Member → Type 0
ShowsWaiting b handle dead members = is_some handle.parked ≡ true → Shows b handle dead members

-- for the late reply to a read of that size, whatever the handle has seen, its target being as this shows it
abbrev pub ForLateAnswer : ℕ → Opening → Behind → ℕ → (Answer → Type 0) → Type 0
ForLateAnswer target o told size P =
    (handle : OpenHandle Progress) (dead : Bool) (members : List Member) → IsOpened target o handle → Shows told handle dead members
    → P (late_answer handle told.entries dead members size)
