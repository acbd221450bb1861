use Rattle.std.proofs.Common.{◌∙◌, ap, sym, subst, arith, length, get_or}
use Rattle.std.specs.Prelude.{IsSome}
use Rattle.sub_reader.specs.Rows.{row_of, row_at, rows_of, rank}
use Rattle.sub_reader.proofs.Gaps.{row_here, rows_few, place_within, rank_row}
use Rattle.sub_reader.proofs.rows.HandleRows.row.Goals as goal

pub index-slot-requires : goal.index-slot-requires
index-slot-requires g c =
    let lt = place_within c.self.inside.slots.items c.args.place (subst (λ v. IsSome (row_at c.args.place v.slots)) (sym c.self.view_is) c.requires) in
    omega arith

pub known_row-requires : goal.known_row-requires
known_row-requires g c =
    let ss = c.self.inside.slots.items in
    let some = subst (λ v. IsSome (row_at c.args.place v.slots)) (sym c.self.view_is) c.requires in
    rw (c.index-slot.ensures, row_here ss c.args.place c.index-slot.result.now (place_within ss c.args.place some)) some

pub returns-clause-row : goal.returns-clause-row
returns-clause-row g c = λ d.
    let ss = c.self.inside.slots.items in
    let some = subst (λ v. IsSome (row_at c.args.place v.slots)) (sym c.self.view_is) c.requires in
    rank_row ss c.args.place c.known_row.result.now d
    (c.known_row.ensures ∙ ap row_of c.index-slot.ensures ∙ row_here ss c.args.place c.index-slot.result.now (place_within ss c.args.place some))
    ∙ ap (λ v. get_or (rows_of v) (rank c.args.place v.slots) d) c.self.view_is

pub returns-clause-few : goal.returns-clause-few
returns-clause-few g c =
    let few = rows_few c.self.inside.slots.items in
    let same = ap (λ v. length (rows_of v)) c.self.view_is in
    omega (arith, c.self.invariant.few, few, same)
