use Rattle.std.proofs.Common.{◌≡◌, ◌+◌, ◌≤◌, [], length, drop}
use Rattle.std.specs.Prelude.{filter}
use Rattle.pps_types.specs.Reading.{visible}
use Rattle.sub_reader.specs.Opened.{opened}
use Rattle.topics.specs.Standing.{messages_in}
use Rattle.topics.proofs.rooms.needs.Given as goal

abbrev pub invariant-entries : goal.invariant-entries
invariant-entries l = record {
  few : l.needs.records ≤ l.entry-index;
  some : l.needs.messages ≤ l.entry-index;
  records : l.needs.records + length (filter (visible (opened l.object [] l.opening)) (drop l.entry-index l.entries)) ≡ length (filter (visible (opened l.object [] l.opening)) l.entries);
  messages : l.needs.messages + messages_in (filter (visible (opened l.object [] l.opening)) (drop l.entry-index l.entries)) ≡ messages_in (filter (visible (opened l.object [] l.opening)) l.entries);
}
