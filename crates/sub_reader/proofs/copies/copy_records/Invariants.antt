use Rattle.std.proofs.Common.{◌≡◌, ◌+◌, ◌-◌, ◌≤◌, take}
use Rattle.sub_reader.proofs.copies.copy_records.Given as goal

abbrev pub invariant-loop-position : goal.invariant-loop-position
invariant-loop-position l = record {
  start : l.copy.start ≡ l.records.start;
  items : l.copy.items ≡ take (l.position - l.records.start) l.records.items;
  room : l.end ≤ l.position + l.copy.room;
}
