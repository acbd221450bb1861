use Rattle.std.proofs.Common.{◌≡◌, ◌≤◌, ◌++◌, length, map}
use Rattle.sub_reader.specs.Alike.{row_told, rows_told}
use Rattle.sub_reader.specs.Rows.{rows_in}
use Rattle.sub_reader.proofs.rows.HandleRows.copy.Given as goal

-- the copy has the handles so far, and room for those that are left
abbrev pub invariant-loop-first : goal.invariant-loop-first
invariant-loop-first g l = record {
  rows : rows_told g.P.Progress.told 0 l.copy ++ map (row_told g.P.Progress.told 0) (rows_in l.rest) ≡ rows_told g.P.Progress.told 0 l.self;
  room : length (rows_in l.rest) ≤ l.copy.places;
}

abbrev pub decreases-loop-first : goal.decreases-loop-first
decreases-loop-first g l = length (rows_in l.rest)
