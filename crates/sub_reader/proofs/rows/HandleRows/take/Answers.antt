use Rattle.std.proofs.Common.{◌∙◌, length, ap, sym, subst, arith}
use Rattle.std.specs.Prelude.{IsSome}
use Rattle.std.specs.List.{remove}
use Rattle.pps_types.specs.Rising.{IsPlaceOf}
use Rattle.pps_types.proofs.RisingEdits.{find_gap, find_place}
use Rattle.sub_reader.specs.Rows.{number_in, row_of, row_at, rows_in, rows_of, row_numbered, rank}
use Rattle.sub_reader.proofs.Edits.{without_gap, without_place}
use Rattle.sub_reader.proofs.Gaps.{row_here, place_within, rank_row, rank_within, left-rows, left-count, left-rising, left-few}
use Rattle.sub_reader.proofs.rows.HandleRows.take.Goals as goal

pub index_mut-slot-requires : goal.index_mut-slot-requires
index_mut-slot-requires g c =
    let lt = place_within c.self.inside.slots.items c.in-Some.place (subst (λ v. IsSome (row_at c.in-Some.place v.slots)) (sym c.self.view_is) c.in-Some.ensures.row) in
    omega arith

pub take_row-row-requires : goal.take_row-row-requires
take_row-row-requires g c =
    let ss = c.self.inside.slots.items in
    let some = subst (λ v. IsSome (row_at c.in-Some.place v.slots)) (sym c.self.view_is) c.in-Some.ensures.row in
    subst IsSome (sym (ap row_of c.index_mut-slot.ensures.value ∙ row_here ss c.in-Some.place c.index_mut-slot.result.now (place_within ss c.in-Some.place some))) some

pub overflow_sub-self : goal.overflow_sub-self
overflow_sub-self g c =
    let some = subst (λ v. IsSome (row_at c.in-Some.place v.slots)) (sym c.self.view_is) c.in-Some.ensures.row in
    omega (arith, c.self.invariant.counted, rank_within c.self.inside.slots.items c.in-Some.place some)

pub compact_if_sparse-requires-clause-count : goal.compact_if_sparse-requires-clause-count
compact_if_sparse-requires-clause-count g c =
    let some = subst (λ v. IsSome (row_at c.in-Some.place v.slots)) (sym c.self.view_is) c.in-Some.ensures.row in
    left-count c.self.inside.slots.items c.self.inside.count c.in-Some.place c.index_mut-slot.result.now c.take_row-row.new.slot c.self.invariant some c.index_mut-slot.ensures.value c.take_row-row.ensures.slot
    c.deref.result.now c.truncate.new.self.items c.end_of_rows-end.result c.deref.ensures.value c.end_of_rows-end.ensures.rows c.truncate.ensures.items

pub compact_if_sparse-requires-clause-ends : goal.compact_if_sparse-requires-clause-ends
compact_if_sparse-requires-clause-ends g c =
    rw (c.truncate.ensures.items, ← c.deref.ensures.value) c.end_of_rows-end.ensures.ends

pub invariant_of-self : goal.invariant_of-self
invariant_of-self g c =
    let some = subst (λ v. IsSome (row_at c.in-Some.place v.slots)) (sym c.self.view_is) c.in-Some.ensures.row in
    let rising = left-rising c.self.inside.slots.items c.self.inside.count c.in-Some.place c.index_mut-slot.result.now c.take_row-row.new.slot c.self.invariant some c.index_mut-slot.ensures.value c.take_row-row.ensures.slot
    c.deref.result.now c.truncate.new.self.items c.end_of_rows-end.result c.deref.ensures.value c.end_of_rows-end.ensures.rows c.truncate.ensures.items in
    let few = left-few c.self.inside.slots.items c.self.inside.count c.in-Some.place c.index_mut-slot.result.now c.take_row-row.new.slot c.self.invariant some c.index_mut-slot.ensures.value c.take_row-row.ensures.slot
    c.deref.result.now c.truncate.new.self.items c.end_of_rows-end.result c.deref.ensures.value c.end_of_rows-end.ensures.rows c.truncate.ensures.items in
    let count = left-count c.self.inside.slots.items c.self.inside.count c.in-Some.place c.index_mut-slot.result.now c.take_row-row.new.slot c.self.invariant some c.index_mut-slot.ensures.value c.take_row-row.ensures.slot
    c.deref.result.now c.truncate.new.self.items c.end_of_rows-end.result c.deref.ensures.value c.end_of_rows-end.ensures.rows c.truncate.ensures.items in
    record {
      rising = c.compact_if_sparse.ensures.rising rising;
      counted = count ∙ sym (ap length c.compact_if_sparse.ensures.rows);
      dense = c.compact_if_sparse.ensures.dense;
      ends = c.compact_if_sparse.ensures.ends;
      few = omega (arith, c.self.invariant.few, few, c.compact_if_sparse.ensures.len, c.compact_if_sparse.new.slots.ok.0, c.truncate.new.self.ok.0);
    }

pub returns-in_default-clause-row : goal.returns-in_default-clause-row
returns-in_default-clause-row g c = sym (find_gap number_in c.args.number (rows_of c.args.self.now) c.in_default.ensures.absent.0 c.in_default.ensures.absent.1)

pub returns-in_default-clause-rows : goal.returns-in_default-clause-rows
returns-in_default-clause-rows g c = sym (without_gap number_in c.args.number (rows_of c.args.self.now) c.in_default.ensures.absent.0 c.in_default.ensures.absent.1)

pub returns-clause-row : goal.returns-clause-row
returns-clause-row g c =
    let ss = c.self.inside.slots.items in
    let some = subst (λ v. IsSome (row_at c.in-Some.place v.slots)) (sym c.self.view_is) c.in-Some.ensures.row in
    let place = subst (λ v. IsPlaceOf number_in (rows_of v) c.args.number (rank c.in-Some.place v.slots)) (sym c.self.view_is) c.in-Some.ensures.found in
    let here = c.take_row-row.ensures.row ∙ ap row_of c.index_mut-slot.ensures.value ∙ row_here ss c.in-Some.place c.index_mut-slot.result.now (place_within ss c.in-Some.place some) in
    find_place number_in c.args.number (rows_in ss) (rank c.in-Some.place ss) c.take_row-row.result place (rank_row ss c.in-Some.place c.take_row-row.result c.take_row-row.result here)
    ∙ ap (λ v. row_numbered c.args.number v) c.self.view_is

pub returns-clause-rows : goal.returns-clause-rows
returns-clause-rows g c =
    let some = subst (λ v. IsSome (row_at c.in-Some.place v.slots)) (sym c.self.view_is) c.in-Some.ensures.row in
    c.compact_if_sparse.ensures.rows
    ∙ left-rows c.self.inside.slots.items c.self.inside.count c.in-Some.place c.index_mut-slot.result.now c.take_row-row.new.slot c.self.invariant some c.index_mut-slot.ensures.value c.take_row-row.ensures.slot
    c.deref.result.now c.truncate.new.self.items c.end_of_rows-end.result c.deref.ensures.value c.end_of_rows-end.ensures.rows c.truncate.ensures.items
    ∙ ap (λ v. remove (rows_of v) (rank c.in-Some.place v.slots)) c.self.view_is
    ∙ sym (without_place number_in c.args.number (rows_of c.args.self.now) (rank c.in-Some.place c.args.self.now.slots) c.in-Some.ensures.found)
