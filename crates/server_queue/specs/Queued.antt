-- A queue with the room that was taken for more.
use Rattle.std.specs.Prelude.{◌≡◌, ℕ, ◌-◌, List}
use Rattle.std.specs.declared.collections.VecDeque.{VecDeque}
use Rattle.std.specs.VecDeque.{deque_len, deque_capacity}
use Rattle.std.specs.HashMap.{spare}
use Rattle.pps_types.specs.History.{Entry}
use Rattle.server_queue.specs.declared.counts.Counts.{Counts}

pub record Queued : Type 0 where
  -- how many messages of a sender it takes
  pub limit : ℕ
  -- what is owed, the oldest first
  pub owed : List Entry
  -- for how many more records there is memory
  pub room : ℕ
  -- for how many more messages of clients there is memory to count them
  pub counters : ℕ

-- the limits are equal and the same is owed, whatever the room
abbrev pub AreAlike : Queued → Queued → Type 0
AreAlike one other = (one.limit ≡ other.limit) × (one.owed ≡ other.owed)

module _ {A : Type 0} where
  abbrev pub queued : ℕ → VecDeque Entry A → Counts → Queued
  queued limit owed counts = record { limit = limit; owed = owed.items; room = deque_capacity owed - deque_len owed; counters = spare counts.from_clients }
