-- How an outbox stays sound.
use Rattle.std.proofs.Common.{◌≡◌, ℕ, ◌+◌, ◌-◌, ◌<◌, ◌≤◌, min, Bool, true, false, ◌==◌, if◌then◌else◌, vec_len, vec_capacity, Vec, arith, refl, sym, subst, deque_len, deque_capacity}
use Rattle.std.specs.declared.collections.VecDeque.{VecDeque}
use Rattle.std.specs.List.{list_any}
use Rattle.pps_types.specs.Outbox.{PulseOf, held, is_armed}
use Rattle.pps_types.specs.declared.outcome.Item.{Item}
use Rattle.pps_types.specs.Rising.{IsRising}
use Rattle.notify_box.specs.Roomed.{roomed, held_len, IsSound, IsReadyToArm}
use Rattle.notify_box.proofs.Free.{arm_free, arm_again}

-- the numbers at an arming: b says that the handle has a pulse armed
arm_numbers : (b : Bool) (i a p places entries a' : ℕ) → (i + a + p) - (if b then 1 else 0) < 1024 → i + a + p ≤ 1024 → i + a + p ≤ places → (b ≡ false → 0 < min (entries - a) (places - (i + a + p))) → a' ≡ a + (if b then 0 else 1) → (i + a' + p ≤ places) × (i + a' + p ≤ 1024)
arm_numbers true i a p places entries a' free few reserved room now = (omega arith, omega arith)
arm_numbers false i a p places entries a' free few reserved room now = let more = room refl in (omega arith, omega arith)

module _ {A : Type 0} where
  held_is : (items : VecDeque Item A) (armed : Vec (ℕ × PulseOf) A) (parked : Vec ℕ A) → held (roomed items armed parked).outbox ≡ held_len items armed parked
  held_is items armed parked = omega arith

  pub sound_armed : (items : VecDeque Item A) (armed new : Vec (ℕ × PulseOf) A) (parked : Vec ℕ A) (handle : ℕ) → IsSound items armed parked → IsReadyToArm (roomed items armed parked) handle → IsRising (λ (a : ℕ × PulseOf). a.0) new.items → vec_len new ≡ vec_len armed + (if list_any (λ (a : ℕ × PulseOf). a.0 == handle) armed.items then 0 else 1) → IsSound items new parked
  sound_armed items armed new parked handle sound ready rising len =
      let own = is_armed (roomed items armed parked).outbox handle in
      let free = subst (λ n. n - (if own then 1 else 0) < 1024) (held_is items armed parked) (arm_free (roomed items armed parked).outbox handle ready.free) in
      let numbers = arm_numbers own (deque_len items) (vec_len armed) (vec_len parked) (deque_capacity items) (vec_capacity armed) (vec_len new) free sound.few sound.reserved ready.room len in
      record { armed_rise = rising; parked_rise = sound.parked_rise; reserved = numbers.0; few = numbers.1 }

  -- the handle's own pulse gives way
  pub ready_again : (items : VecDeque Item A) (armed : Vec (ℕ × PulseOf) A) (parked : Vec ℕ A) (handle : ℕ) → IsSound items armed parked → true ≡ is_armed (roomed items armed parked).outbox handle → IsReadyToArm (roomed items armed parked) handle
  ready_again items armed parked handle sound own = record {
    free = arm_again (roomed items armed parked).outbox handle (sym own) (subst (λ n. n ≤ 1024) (sym (held_is items armed parked)) sound.few);
    room = λ none. cc;
  }
