-- What a connection has to come: queued items, armed pulses and parked reads, and the limit on all three together.
-- QNX C library, on `ionotify` and pulses; the limit is our own.
use Rattle.std.specs.Prelude.{ℕ, ◌+◌, ◌-◌, List, [], ◌∷◌, ◌++◌, Bool, true, false, not, ◌==◌, nat_le, nat_lt, if◌then◌else◌, Option, Some, None, Result, filter, find, length}
use Rattle.std.specs.Option.{option_map_or}
use Rattle.std.specs.List.{list_any}
use Rattle.pps_types.specs.declared.event.Action.{Action}
use Rattle.pps_types.specs.declared.event.Action.TheVariants.{Poll, Pollarm, Tranarm}
use Rattle.pps_types.specs.declared.outcome.Item.{Item}
use Rattle.pps_types.specs.declared.outcome.Item.TheVariants.{Pulse, ReadDone}
use Rattle.pps_types.specs.declared.refusal.Refusal.{Refusal}
use Rattle.pps_types.specs.declared.refusal.Refusal.TheVariants.{ReadPending, OutboxFull}

-- the code and the value of a pulse
abbrev pub PulseOf : Type 0
PulseOf = ℕ × ℕ

-- Items in the order in which they were queued; armed pulses and parked reads by handle, in rising number.
pub record Outbox : Type 0 where
  pub items : List Item
  pub armed : List (ℕ × PulseOf)
  pub parked : List ℕ

abbrev pub empty_outbox : Outbox
empty_outbox = record { items = []; armed = []; parked = [] }

abbrev pub armed_on : Outbox → ℕ → Option (ℕ × PulseOf)
armed_on box handle = find (λ a. a.0 == handle) box.armed

abbrev pub is_armed : Outbox → ℕ → Bool
is_armed box handle = list_any (λ a. a.0 == handle) box.armed

abbrev pub is_parked : Outbox → ℕ → Bool
is_parked box handle = list_any (λ p. p == handle) box.parked

-- what counts against the limit
abbrev pub held : Outbox → ℕ
held box = length box.items + length box.armed + length box.parked

abbrev pub is_full : ℕ → Bool
is_full n = nat_le 1024 n

-- arming takes the place of the handle's own armed pulse
abbrev pub arm_refusal : Outbox → ℕ → Option Refusal
arm_refusal box handle = if is_full (held box - (if is_armed box handle then 1 else 0)) then Some OutboxFull else None

abbrev pub park_refusal : Outbox → ℕ → Option Refusal
park_refusal box handle = if is_parked box handle then Some ReadPending else if is_full (held box) then Some OutboxFull else None

-- whether a Notify arms, by whether there is news
abbrev pub arms : Action → Bool → Bool
arms Poll news = false
arms Pollarm news = not news
arms Tranarm news = true

-- ---- changes

abbrev pub disarmed : Outbox → ℕ → Outbox
disarmed box handle = record box { armed = filter (λ a. not (a.0 == handle)) box.armed }

module _ {X : Type 0} where
  -- in rising number
  abbrev pub put_rising : (X → ℕ) → X → List X → List X
  put_rising number x [] = x ∷ []
  put_rising number x (y ∷ ys) = if nat_lt (number x) (number y) then x ∷ y ∷ ys else y ∷ put_rising number x ys

abbrev pub with_pulse : Outbox → ℕ → PulseOf → Outbox
with_pulse box handle pulse = record (disarmed box handle) { armed = put_rising (λ a. a.0) (handle, pulse) (disarmed box handle).armed }

abbrev pub with_parked : Outbox → ℕ → Outbox
with_parked box handle = record box { parked = put_rising (λ p. p) handle box.parked }

abbrev pub queued : Outbox → Item → Outbox
queued box item = record box { items = box.items ++ item ∷ [] }

-- the handle's armed pulse, if it has one, is queued and no longer armed
abbrev pub fired_in : Outbox → ℕ → Outbox
fired_in box handle = option_map_or (λ a. queued (disarmed box handle) (Pulse a.1.0 a.1.1)) (armed_on box handle) box

-- the handle's parked read has its reply, and is no longer parked
abbrev pub finished_in : Outbox → ℕ → Result (List ℕ) Refusal → Outbox
finished_in box handle result = queued (record box { parked = filter (λ p. not (p == handle)) box.parked }) (ReadDone handle result)

abbrev pub first_of : List Item → Option Item
first_of [] = None
first_of (i ∷ is) = Some i

abbrev pub behind_first : List Item → List Item
behind_first [] = []
behind_first (i ∷ is) = is
