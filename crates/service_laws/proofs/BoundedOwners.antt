-- A handle that no check refuses is there.
use Rattle.std.specs.Prelude.{◌≡◌, ℕ, List, Option, Some, None, refl}
use Rattle.pps_types.specs.Reading.{OpenHandle}
use Rattle.pps_types.specs.Rests.{Progress}
use Rattle.pps_types.specs.Content.{Content, own_handle}
use Rattle.pps_types.specs.Checks.{Check, first_refusal, on_handle}

pub handled : (c : Content) (conn handle : ℕ) (checks : OpenHandle Progress → List Check) → first_refusal (on_handle c conn handle checks) ≡ None
    → (h : OpenHandle Progress) × (own_handle c conn handle ≡ Some h) × (first_refusal (checks h) ≡ None)
handled c conn handle checks p = go (own_handle c conn handle) refl
  where
    go : (o : Option (OpenHandle Progress)) → own_handle c conn handle ≡ o → (h : OpenHandle Progress) × (own_handle c conn handle ≡ Some h) × (first_refusal (checks h) ≡ None)
    go None e = absurd (let q = rw e at p in cc)
    go (Some h) e = (h, e, rw e at p)
