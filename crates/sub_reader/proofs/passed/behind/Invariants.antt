use Rattle.std.proofs.Common.{◌≡◌, ◌-◌, [], drop}
use Rattle.pps_types.specs.Reading.{visible}
use Rattle.pps_types.specs.Rests.{from_first, past}
use Rattle.sub_reader.specs.Opened.{opened}
use Rattle.sub_reader.proofs.passed.behind.Given as goal

abbrev pub invariant-rest : goal.invariant-rest
invariant-rest l = record {
  same : from_first (visible (opened l.target [] l.opening)) (past (visible (opened l.target [] l.opening)) l.left (drop (l.position - l.records.start) l.records.items))
      ≡ from_first (visible (opened l.target [] l.opening)) (past (visible (opened l.target [] l.opening)) l.count (drop (l.from - l.records.start) l.records.items));
}
