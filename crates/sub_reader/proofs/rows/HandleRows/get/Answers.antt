use Rattle.std.proofs.Common.{◌∙◌, ap, arith, length}
use Rattle.sub_reader.specs.Rows.{row_of, row_at}
use Rattle.sub_reader.proofs.Gaps.{row_found, none_found, row_here, place_within}
use Rattle.sub_reader.proofs.rows.HandleRows.get.Goals as goal

pub returns-in_default : goal.returns-in_default
returns-in_default g c =
    none_found c.args.self.now.slots c.deref.result.now c.args.number c.number.result (c.deref.ensures.value ∙ ap (λ v. v.slots) c.self.view_is) c.number.ensures.same c.in_default.ensures.absent

pub index-slot-requires : goal.index-slot-requires
index-slot-requires g c =
    let lt = place_within c.deref.result.now c.in-Some.place c.in-Some.ensures.row in
    let same = ap length c.deref.ensures.value in
    omega (arith, lt, same)

pub returns : goal.returns
returns g c =
    let slots = c.self.inside.slots.items in
    let x = c.index-slot.result.now in
    c.row_of.ensures
    ∙ ap row_of c.index-slot.ensures
    ∙ row_here slots c.in-Some.place x (let lt = place_within c.deref.result.now c.in-Some.place c.in-Some.ensures.row in let same = ap length c.deref.ensures.value in omega (arith, lt, same))
    ∙ ap (λ v. row_at c.in-Some.place v.slots) c.self.view_is
    ∙ row_found c.args.self.now.slots c.deref.result.now c.args.number c.number.result c.in-Some.place (c.deref.ensures.value ∙ ap (λ v. v.slots) c.self.view_is) c.number.ensures.same c.in-Some.ensures.found c.in-Some.ensures.row
