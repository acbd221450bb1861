use Rattle.std.proofs.Common.{◌∙◌, ap, arith, length}
use Rattle.sub_reader.specs.Rows.{row_of, row_at, rows_of}
use Rattle.sub_reader.proofs.Gaps.{row_here, rows_few}
use Rattle.sub_reader.proofs.rows.HandleRows.at.Goals as goal

pub returns-clause-row : goal.returns-clause-row
returns-clause-row g c =
    c.row_of.ensures ∙ ap row_of c.index-slot.ensures
    ∙ row_here c.self.inside.slots.items c.args.place c.index-slot.result.now (let same = ap (λ v. length v.slots) c.self.view_is in omega arith)
    ∙ ap (λ v. row_at c.args.place v.slots) c.self.view_is

pub returns-clause-few : goal.returns-clause-few
returns-clause-few g c =
    let few = rows_few c.self.inside.slots.items in
    let same = ap (λ v. length (rows_of v)) c.self.view_is in
    omega (arith, c.self.invariant.few, few, same)
