use Rattle.std.proofs.Common.{◌≡◌, ◌++◌, drop}
use Rattle.std.specs.Prelude.{filter, map}
use Rattle.std.specs.List.{AllByRecursion}
use Rattle.sub_reader.specs.Rows.{number_in, rows_in}
use Rattle.topics.specs.QueueRows.{IsQueued}
use Rattle.topics.specs.Woken.{wakes_at}
use Rattle.topics.proofs.woken.find_woken.Given as goal

abbrev pub invariant-slots : goal.invariant-slots
invariant-slots l = record {
  queued : AllByRecursion IsQueued (rows_in (drop l.slot-index l.slots));
  woken : l.woken.items ++ map number_in (filter (wakes_at l.object l.entries) (rows_in (drop l.slot-index l.slots)))
      ≡ map number_in (filter (wakes_at l.object l.entries) (rows_in l.slots));
}
