use Rattle.std.proofs.Common.{◌∙◌, ◌<◌, [], ◌∷◌, ◌++◌, subst, ap, sym, arith}
use Rattle.std.specs.List.{AllByRecursion}
use Rattle.sub_reader.specs.Rows.{number_in, rows_in, rows_of}
use Rattle.sub_reader.proofs.Gaps.{sound_push, rows_push, rows_few}
use Rattle.sub_reader.proofs.rows.HandleRows.push_reserved.Goals as goal

pub invariant_of-self : goal.invariant_of-self
invariant_of-self g c =
    let ss = c.self.inside.slots.items in
    let places = subst (λ v. 0 < v.places) (sym c.self.view_is) c.requires.places in
    let above = subst (λ v. AllByRecursion (λ x. number_in x < number_in c.args.row) (rows_of v)) (sym c.self.view_is) c.requires.above in
    rw c.push_reserved.ensures.items (sound_push ss c.self.inside.count c.args.row c.self.invariant above (omega arith))

pub returns-clause-rows : goal.returns-clause-rows
returns-clause-rows g c =
    ap rows_in c.push_reserved.ensures.items
    ∙ rows_push c.self.inside.slots.items c.args.row
    ∙ ap (λ v. rows_of v ++ c.args.row ∷ []) c.self.view_is

pub overflow_add-self : goal.overflow_add-self
overflow_add-self g c = omega (arith, c.self.invariant.counted, c.self.invariant.few, rows_few c.self.inside.slots.items)
