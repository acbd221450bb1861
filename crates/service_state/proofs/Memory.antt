-- Whether a refusal is want of memory.
use Rattle.std.specs.Prelude.{◌≡◌, ◌≢◌, ◌⊎◌, Bool, true, false, Some}
use Rattle.std.proofs.Common.{refl, sym, ◌∙◌, ap, inl, inr}
use Rattle.pps_types.specs.declared.refusal.Refusal.{Refusal}
use Rattle.pps_types.specs.declared.refusal.Refusal.TheVariants.{OutOfMemory}

abbrev is_memory : Refusal → Bool
is_memory OutOfMemory = true
is_memory r = false

is_true : (r : Refusal) → is_memory r ≡ true → r ≡ OutOfMemory
is_true OutOfMemory e = refl
is_true r e = absurd (let bad = e in cc)

pub memory_or : (r : Refusal) → (r ≡ OutOfMemory) ⊎ (Some r ≢ Some OutOfMemory)
memory_or r = by (is_memory r) refl
  where
    by : (b : Bool) → is_memory r ≡ b → (r ≡ OutOfMemory) ⊎ (Some r ≢ Some OutOfMemory)
    by true e = inl (is_true r e)
    by false e = inr (λ same. let is : r ≡ OutOfMemory = cc in let bad : true ≡ false = sym (ap is_memory is) ∙ e in cc)
