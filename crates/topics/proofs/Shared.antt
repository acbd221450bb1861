-- Shares of a record are enough, where one was made for each handle that is given it.
use Rattle.std.proofs.Common.{◌≡◌, ◌≤◌, length, refl, sym, subst, arith, Ok, Err}
use Rattle.std.specs.Prelude.{◌<◌, ℕ, IfOk, IsOk, OnErr, filter, Result}
use Rattle.std.specs.Global.{Box}
use Rattle.pps_types.specs.History.{Entry}
use Rattle.pps_types.specs.Reading.{OpenHandle, visible}
use Rattle.pps_types.specs.Rests.{Progress}
use Rattle.server_queue.specs.Shared.{Shared}
use Rattle.topics.specs.Standing.{Standing}
use Rattle.topics.specs.declared.topic.Topic.{Topic}
use Rattle.topics.specs.declared.topic.Topic.TheVariants.{Served}
use Rattle.topics.specs.HandlesOf.{IsEnough}

module _ {E : Type 0} (e : Entry) (s : Box Standing) (x : Topic) (is : x ≡ Served s) where
  pub enough : (r : Result Shared E) → IfOk r (λ made. made ≡ record { entry = e; count = length (filter (λ (h : OpenHandle Progress). visible h e) s.value.handles) })
      → IfOk r (λ made. IsEnough made.count made.entry x)
  enough (Err error) told = tt
  enough (Ok made) told =
      subst (λ y. IsEnough made.count made.entry y) (sym is)
      (subst (λ (m : Shared). length (filter (λ (h : OpenHandle Progress). visible h m.entry) s.value.handles) ≤ m.count) (sym told) (omega arith))

-- what fails only where there is too little succeeds where there is enough
pub succeeds : {X E : Type 0} {had needed : ℕ} (r : Result X E) → OnErr r (had < needed) → needed ≤ had → IsOk r
succeeds (Ok made) lacking has = refl
succeeds (Err error) lacking has = absurd (omega (arith, lacking, has))
