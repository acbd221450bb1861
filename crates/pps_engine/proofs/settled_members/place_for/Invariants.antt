use Rattle.std.proofs.Common.{◌≡◌, ◌++◌, take, drop}
use Rattle.pps_engine.specs.Behind.{with_row}
use Rattle.pps_engine.proofs.settled_members.place_for.Given as goal

abbrev pub invariant-places : goal.invariant-places
invariant-places l = record {
  counted : l.place ≡ l.other-index;
  same : with_row l.row l.rows ≡ take l.other-index l.rows ++ with_row l.row (drop l.other-index l.rows);
}
