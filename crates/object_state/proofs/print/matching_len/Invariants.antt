use Rattle.std.proofs.Common.{◌≡◌, ◌+◌, ◌-◌, drop, length}
use Rattle.std.specs.Prelude.{Some}
use Rattle.object_state.specs.Entries.{attributes_of}
use Rattle.object_state.specs.Held.{print_matching}
use Rattle.object_state.specs.Places.{IsReached}
use Rattle.object_state.proofs.print.matching_len.Given as goal

abbrev pub invariant-places : goal.invariant-places
invariant-places l = record {
  reached : IsReached l.filter (attributes_of l.map.entries) l.place;
  summed : l.total + length (print_matching (Some l.filter) (drop l.place (attributes_of l.map.entries))) ≡ length (print_matching (Some l.filter) (attributes_of l.map.entries));
}

abbrev pub decreases-places : goal.decreases-places
decreases-places l = length l.map.entries - l.place
