-- An outbox with the room that was taken for more.
use Rattle.std.specs.Prelude.{◌≡◌, ℕ, ◌+◌, ◌-◌, ◌<◌, ◌≤◌, min, false, None, vec_len, vec_capacity, Vec}
use Rattle.std.specs.declared.collections.VecDeque.{VecDeque}
use Rattle.std.specs.VecDeque.{deque_len, deque_capacity}
use Rattle.pps_types.specs.Outbox.{Outbox, PulseOf, is_armed, arm_refusal, park_refusal}
use Rattle.pps_types.specs.declared.outcome.Item.{Item}
use Rattle.pps_types.specs.Rising.{IsRising}

pub record Roomed : Type 0 where
  pub outbox : Outbox
  -- for how many more armed pulses there is memory
  pub pulse_room : ℕ
  -- for how many more parked reads there is memory
  pub read_room : ℕ

-- Nothing refuses an armed pulse, and it has a place: the handle's own, or one that was taken for it.
pub record IsReadyToArm (roomed : Roomed) (handle : ℕ) : Type 0 where
  pub free : arm_refusal roomed.outbox handle ≡ None
  pub room : is_armed roomed.outbox handle ≡ false → 0 < roomed.pulse_room

-- Nothing refuses a parked read, and a place was taken for it.
pub record IsReadyToPark (roomed : Roomed) (handle : ℕ) : Type 0 where
  pub free : park_refusal roomed.outbox handle ≡ None
  pub room : 0 < roomed.read_room

-- ---- how the parts make an outbox

module _ {A : Type 0} where
  -- what counts against the limit
  abbrev pub held_len : VecDeque Item A → Vec (ℕ × PulseOf) A → Vec ℕ A → ℕ
  held_len items armed parked = deque_len items + vec_len armed + vec_len parked

  abbrev pub roomed : VecDeque Item A → Vec (ℕ × PulseOf) A → Vec ℕ A → Roomed
  roomed items armed parked = record {
    outbox = record { items = items.items; armed = armed.items; parked = parked.items };
    pulse_room = min (vec_capacity armed - vec_len armed) (deque_capacity items - held_len items armed parked);
    read_room = min (vec_capacity parked - vec_len parked) (deque_capacity items - held_len items armed parked);
  }

  -- The handles rise, each armed pulse and parked read has a place among the items, and the limit is kept.
  pub record IsSound (items : VecDeque Item A) (armed : Vec (ℕ × PulseOf) A) (parked : Vec ℕ A) : Type 0 where
    pub armed_rise : IsRising (λ (a : ℕ × PulseOf). a.0) armed.items
    pub parked_rise : IsRising (λ (p : ℕ). p) parked.items
    pub reserved : held_len items armed parked ≤ deque_capacity items
    pub few : held_len items armed parked ≤ 1024
