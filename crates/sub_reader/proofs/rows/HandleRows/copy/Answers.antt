use Rattle.std.proofs.Common.{◌++◌, ◌∙◌, List, map, subst, sym, ap}
use Rattle.pps_types.specs.Rising.{IsRising}
use Rattle.sub_reader.specs.declared.row.HandleRow.{HandleRow}
use Rattle.sub_reader.specs.Alike.{row_told, rows_told}
use Rattle.sub_reader.specs.Rows.{number_in, rows_in, rows_of}
use Rattle.sub_reader.proofs.Copying.{copied-below}
use Rattle.sub_reader.proofs.Gaps.{rows_rising}
use Rattle.sub_reader.proofs.rows.HandleRows.copy.Goals as goal

pub push_reserved-requires-clause-above : goal.push_reserved-requires-clause-above
push_reserved-requires-clause-above g c =
    let told = g.P.Progress.told in
    let done = rows_of c.loop-first.copy in
    let first = c.in-Some.first.row.now in
    let behind = rows_in c.in-Some.first.behind.now in
    copied-below told (rows_of c.args.self.now) done behind first c.in_ok-row.row (subst (λ v. IsRising number_in (rows_of v)) c.self.view_is (rows_rising c.self.inside.slots.items c.self.invariant.rising))
    (sym c.loop-first.invariant.rows ∙ ap (λ (rs : List (HandleRow g.row.P.Denot)). rows_told told 0 c.loop-first.copy ++ map (row_told told 0) rs) c.in-Some.ensures.some)
    c.in_ok-row.ensures.ok
