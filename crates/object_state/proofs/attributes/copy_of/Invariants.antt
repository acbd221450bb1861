use Rattle.std.proofs.Common.{◌≡◌, ◌≤◌, length, take, vec_capacity}
use Rattle.object_state.proofs.attributes.copy_of.Given as goal

abbrev pub invariant-entries : goal.invariant-entries
invariant-entries l = (l.copy.items ≡ take l.entry-index l.entries) × (length l.entries ≤ vec_capacity l.copy)
