use Rattle.std.proofs.Common.{sym, ◌∙◌}
use Rattle.sub_reader.specs.Rows.{rank}
use Rattle.sub_reader.proofs.Gaps.{gap_rows, closed_rows, row_some, row_none}
use Rattle.sub_reader.proofs.slots.find_row.Goals as goal

pub returns-in_default-clause-absent : goal.returns-in_default-clause-absent
returns-in_default-clause-absent g c =
    (rank c.in_default.field-0 c.args.slots.now, gap_rows c.args.slots.now c.args.number c.in_default.field-0 c.in_default.ensures.absent)

pub returns-then-is_row-clause-row : goal.returns-then-is_row-clause-row
returns-then-is_row-clause-row g c =
    row_some c.args.slots.now c.in-Ok.place c.index-slots-place.result c.in-Ok.ensures.place c.index-slots-place.is (sym c.is_row.ensures ∙ c.if-is_row.true)

pub returns-else-is_row-clause-absent : goal.returns-else-is_row-clause-absent
returns-else-is_row-clause-absent g c = (
  rank c.in-Ok.place c.args.slots.now,
  closed_rows c.args.slots.now c.args.number c.in-Ok.place c.in-Ok.ensures.found
      (row_none c.args.slots.now c.in-Ok.place c.index-slots-place.result c.in-Ok.ensures.place c.index-slots-place.is (sym c.is_row.ensures ∙ c.if-is_row.false)),
)
