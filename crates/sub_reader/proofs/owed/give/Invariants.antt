use Rattle.std.proofs.Common.{◌+◌, ◌-◌, ◌≤◌, [], drop}
use Rattle.server_queue.proofs.Fits.{Runs}
use Rattle.sub_reader.specs.Opened.{opened}
use Rattle.sub_reader.specs.Blocks.{blocks_given}
use Rattle.sub_reader.proofs.owed.give.Given as goal

abbrev pub invariant-records : goal.invariant-records
invariant-records l = record {
  few : l.run.given.count + l.from ≤ l.position;
  runs : Runs l.max (blocks_given (opened l.target [] l.opening) (drop (l.from - l.records.start) l.records.items))
      (blocks_given (opened l.target [] l.opening) (drop (l.position - l.records.start) l.records.items)) l.run;
}
