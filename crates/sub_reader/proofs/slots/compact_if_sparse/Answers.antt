use Rattle.std.proofs.Common.{◌∙◌, length, ap, subst, sym, arith}
use Rattle.pps_types.specs.Rising.{IsRising}
use Rattle.sub_reader.specs.Rows.{number_at, rows_in, EndsInRow}
use Rattle.sub_reader.proofs.Gaps.{rows_few, rows_filter, rising_filter, ends_filter, length_filter}
use Rattle.sub_reader.proofs.slots.compact_if_sparse.Goals as goal

pub overflow_sub-gaps : goal.overflow_sub-gaps
overflow_sub-gaps g c = let e = rows_few c.args.slots.now.items in omega arith

pub returns-then-gaps-count-clause-rows : goal.returns-then-gaps-count-clause-rows
returns-then-gaps-count-clause-rows g c = ap rows_in c.compact.ensures.slots ∙ rows_filter c.args.slots.now.items

pub returns-then-gaps-count-clause-rising : goal.returns-then-gaps-count-clause-rising
returns-then-gaps-count-clause-rising g c rising = subst (IsRising number_at) (sym c.compact.ensures.slots) (rising_filter c.args.slots.now.items rising)

pub returns-then-gaps-count-clause-ends : goal.returns-then-gaps-count-clause-ends
returns-then-gaps-count-clause-ends g c = subst EndsInRow (sym c.compact.ensures.slots) (ends_filter c.args.slots.now.items)

pub returns-then-gaps-count-clause-dense : goal.returns-then-gaps-count-clause-dense
returns-then-gaps-count-clause-dense g c =
    let e = ap length c.compact.ensures.slots in
    let f = length_filter c.args.slots.now.items in
    omega arith

pub returns-then-gaps-count-clause-len : goal.returns-then-gaps-count-clause-len
returns-then-gaps-count-clause-len g c =
    let e = ap length c.compact.ensures.slots in
    let f = length_filter c.args.slots.now.items in
    let h = rows_few c.args.slots.now.items in
    omega arith
