use Rattle.std.proofs.Common.{◌≡◌, ◌+◌, ◌-◌, ◌<◌, ◌∙◌, true, length, take, get_or, ap, sym, subst, arith}
use Rattle.std.proofs.lemmas.List.{take_more}
use Rattle.sub_reader.specs.Rows.{is_row, rows_in, EndsInRow}
use Rattle.sub_reader.proofs.Gaps.{rows_gap, ends_last}
use Rattle.sub_reader.proofs.slots.end_of_rows.Goals as goal

pub returns-then-is_row-clause-ends : goal.returns-then-is_row-clause-ends
returns-then-is_row-clause-ends g c =
    let ss = c.args.slots.now in
    let s = c.index-slots-end.result in
    let end : c.gaps.end ≡ (c.gaps.end - 1) + 1 = omega arith in
    let lt : c.gaps.end - 1 < length ss = omega (arith, c.gaps.invariant.within) in
    subst EndsInRow (sym (ap (λ n. take n ss) end ∙ take_more ss (c.gaps.end - 1) s lt))
    (ends_last true (take (c.gaps.end - 1) ss) (get_or ss (c.gaps.end - 1) s) (ap is_row (sym c.index-slots-end.is) ∙ sym c.is_row.ensures ∙ c.if-is_row.true))

pub gaps-preserved : goal.gaps-preserved
gaps-preserved g c =
    let ss = c.args.slots.now in
    let s = c.index-slots-end.result in
    let end : (c.gaps.end - 1) + 1 ≡ c.gaps.end = omega arith in
    let lt : c.gaps.end - 1 < length ss = omega (arith, c.gaps.invariant.within) in
    record {
      within = omega (arith, c.gaps.invariant.within);
      rows = sym (rows_gap (take (c.gaps.end - 1) ss) (get_or ss (c.gaps.end - 1) s) (ap is_row (sym c.index-slots-end.is) ∙ sym c.is_row.ensures ∙ c.if-is_row.false))
          ∙ ap rows_in (sym (take_more ss (c.gaps.end - 1) s lt))
          ∙ ap (λ n. rows_in (take n ss)) end
          ∙ c.gaps.invariant.rows;
    }
