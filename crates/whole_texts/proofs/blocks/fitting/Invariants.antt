use Rattle.std.proofs.Common.{◌≤◌, drop}
use Rattle.server_queue.proofs.Fits.{Runs}
use Rattle.whole_texts.specs.Replied.{blocks_for}
use Rattle.whole_texts.proofs.blocks.fitting.Given as goal

abbrev pub invariant-entries : goal.invariant-entries
invariant-entries l = record {
  few : l.run.given.count ≤ l.place;
  runs : Runs l.size (blocks_for l.target l.opening l.entries) (blocks_for l.target l.opening (drop l.place l.entries)) l.run;
}
