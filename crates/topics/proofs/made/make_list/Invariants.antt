use Rattle.std.proofs.Common.{◌≡◌, length}
use Rattle.std.specs.List.{AllByRecursion}
use Rattle.pps_types.specs.History.{Entry}
use Rattle.topics.proofs.made.make_list.Given as goal

abbrev pub invariant-shares : goal.invariant-shares
invariant-shares l = record {
  each : AllByRecursion (λ (e : Entry). e ≡ l.entry) l.list.items;
  count : length l.list.items ≡ l.counter;
}
