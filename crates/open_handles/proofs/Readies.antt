-- Shares of a record, in the place of its object.
use Rattle.std.proofs.Common.{◌≡◌, ℕ, Some, Result, Ok, Err, sym, ap, ◌∙◌, subst}
use Rattle.std.specs.Prelude.{IfOk}
use Rattle.pps_types.specs.declared.found.Found.{Found}
use Rattle.pps_types.specs.declared.found.Found.TheVariants.{Object as FoundObject}
use Rattle.pps_types.specs.History.{Entry}
use Rattle.number_table.specs.Numbered.{Numbered}
use Rattle.server_queue.specs.Shared.{Shared}
use Rattle.topics.specs.declared.topic.Topic.{Topic}
use Rattle.topics.specs.HandlesOf.{IsEnough}
use Rattle.open_handles.specs.declared.places.Places.{Places}
use Rattle.open_handles.specs.Whole.{place_at, with_place, IsSharedAt}
use Rattle.open_handles.proofs.Standing.{with_found}
use Rattle.open_handles.proofs.Turns.{whole_of}
use Rattle.open_handles.proofs.Offers.{shared_here}

-- shares that are enough for the place are enough
pub shared_there : {E : Type 0} (rows : Numbered Found) (p : Places) (s t : Topic) (object : ℕ) (e : Entry) → place_at (FoundObject object) p ≡ Some s → object ≡ e.record_of.object
    → (r : Result Shared E) → IfOk r (λ shares. shares.entry ≡ e) → IfOk r (λ shares. IsEnough shares.count shares.entry t)
    → IfOk r (λ shares. IsSharedAt shares.count shares.entry (FoundObject shares.entry.record_of.object) (whole_of rows (with_place p (FoundObject object) t)))
shared_there rows p s t object e found at (Err error) same enough = tt
shared_there rows p s t object e found at (Ok shares) same enough =
    subst (λ n. IsSharedAt shares.count shares.entry (FoundObject n) (whole_of rows (with_place p (FoundObject object) t))) (at ∙ sym (ap (λ (x : Entry). x.record_of.object) same))
    (shared_here rows (with_place p (FoundObject object) t) (FoundObject object) (Some t) shares.entry shares.count (sym (with_found p (FoundObject object) s t found)) enough)
