use Rattle.std.proofs.Common.{◌∙◌, ap, arith, length}
use Rattle.sub_reader.proofs.Gaps.{looked, few_looked}
use Rattle.sub_reader.proofs.rows.HandleRows.find.Goals as goal

pub returns : goal.returns
returns g c =
    let is = looked c.args.self.now.slots c.deref.result.now c.args.number c.number.result c.find_row.result (c.deref.ensures.value ∙ ap (λ v. v.slots) c.self.view_is) c.number.ensures.same c.find_row.ensures.found c.find_row.ensures.row c.find_row.ensures.absent in
    let same = ap (λ v. length v.slots) c.self.view_is in
    record { found = is.found; row = is.row; absent = is.absent; few = few_looked c.args.self.now.slots c.find_row.result (omega (arith, c.self.invariant.few, same)) is.row }
