use Rattle.std.proofs.Common.{◌≡◌, ◌+◌, ◌-◌, ◌≤◌, ◌++◌, drop, length, vec_len, vec_capacity}
use Rattle.std.specs.Prelude.{Some}
use Rattle.object_state.specs.Entries.{attributes_of}
use Rattle.object_state.specs.Held.{print_matching}
use Rattle.object_state.specs.Places.{IsReached}
use Rattle.object_state.proofs.print.push_matching.Given as goal

abbrev pub invariant-places : goal.invariant-places
invariant-places l = record {
  reached : IsReached l.filter (attributes_of l.map.entries) l.place;
  printed : l.out.items ++ print_matching (Some l.filter) (drop l.place (attributes_of l.map.entries)) ≡ l.fn.out.items ++ print_matching (Some l.filter) (attributes_of l.map.entries);
  room : vec_len l.out + length (print_matching (Some l.filter) (drop l.place (attributes_of l.map.entries))) ≤ vec_capacity l.out;
  grown : vec_capacity l.fn.out ≤ vec_capacity l.out;
}

abbrev pub decreases-places : goal.decreases-places
decreases-places l = length l.map.entries - l.place
