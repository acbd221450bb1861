use Rattle.std.proofs.Common.{◌≡◌, ◌+◌, ◌≤◌, length, drop}
use Rattle.std.specs.Prelude.{filter}
use Rattle.std.specs.List.{AllByRecursion}
use Rattle.sub_reader.specs.Rows.{rows_in}
use Rattle.topics.specs.QueueRows.{IsQueued, sees}
use Rattle.topics.proofs.offers.count_seers.Given as goal

abbrev pub invariant-slots : goal.invariant-slots
invariant-slots l = record {
  few : l.count ≤ l.slot-index;
  queued : AllByRecursion IsQueued (rows_in (drop l.slot-index l.slots));
  count : l.count + length (filter (sees l.object l.entry) (rows_in (drop l.slot-index l.slots))) ≡ length (filter (sees l.object l.entry) (rows_in l.slots));
}
