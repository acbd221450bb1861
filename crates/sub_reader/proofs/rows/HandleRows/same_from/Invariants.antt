use Rattle.std.proofs.Common.{◌≡◌, length, map}
use Rattle.sub_reader.specs.Alike.{row_told, rows_told}
use Rattle.sub_reader.specs.Rows.{rows_in}
use Rattle.sub_reader.proofs.rows.HandleRows.same_from.Given as goal

-- so far they are the same, so what is left decides
abbrev pub invariant-loop-our : goal.invariant-loop-our
invariant-loop-our g l = record {
  rest : rows_told g.P.Progress.told l.start l.self ≡ rows_told g.P.Progress.told l.other_start l.other → map (row_told g.P.Progress.told l.start) (rows_in l.ours) ≡ map (row_told g.P.Progress.told l.other_start) (rows_in l.theirs);
  all : map (row_told g.P.Progress.told l.start) (rows_in l.ours) ≡ map (row_told g.P.Progress.told l.other_start) (rows_in l.theirs) → rows_told g.P.Progress.told l.start l.self ≡ rows_told g.P.Progress.told l.other_start l.other;
}

abbrev pub decreases-loop-our : goal.decreases-loop-our
decreases-loop-our g l = length (rows_in l.ours)
