use Rattle.std.proofs.Common.{◌≡◌, ◌<◌, ℕ, slice_get}
use Rattle.object_state.proofs.attributes.Attributes.same.Given as goal

abbrev pub invariant-places : goal.invariant-places
invariant-places l = (k : ℕ) → k < l.place → slice_get l.self.entries k ≡ slice_get l.other.entries k
