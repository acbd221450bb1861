use Rattle.std.proofs.Common.{◌≡◌, ◌+◌, drop, not, List, ℕ}
use Rattle.std.proofs.lemmas.List.Filters.{FiltersInPlace}
use Rattle.pps_types.specs.History.{persistent, text_length}
use Rattle.pps_types.specs.AttributeContent.{Content}
use Rattle.object_state.specs.Entries.{attributes_of}
use Rattle.object_state.proofs.changes.drop_nonpersistent.Given as goal

abbrev pub invariant-places : goal.invariant-places
invariant-places l = record {
  moved : FiltersInPlace (λ (e : List ℕ × Content). not e.1.n) l.fn.map.entries l.map.entries l.kept l.place;
  counted : l.text_len + text_length (persistent (attributes_of (drop l.place l.fn.map.entries))) ≡ text_length (persistent (attributes_of l.fn.map.entries));
}
