use Rattle.std.proofs.Common.{◌∙◌, ◌==◌, subst, ap, sym, refl, arith}
use Rattle.std.specs.Prelude.{IsSome}
use Rattle.pps_types.specs.Plan.{on_first}
use Rattle.pps_types.specs.Rising.{IsPlaceOf}
use Rattle.sub_reader.specs.Rows.{number_in, row_at, rows_of, rank, on_row, parked_with}
use Rattle.sub_reader.proofs.Edits.{change_gap}
use Rattle.sub_reader.proofs.Gaps.{place_within, sound_set, rows_numbered}
use Rattle.sub_reader.proofs.rows.HandleRows.park.Goals as goal

pub returns-in_default-clause-rows : goal.returns-in_default-clause-rows
returns-in_default-clause-rows g c = sym (change_gap number_in (parked_with c.args.size) c.args.number (rows_of c.args.self.now) c.in_default.ensures.absent.0 c.in_default.ensures.absent.1)

pub index_mut-slot-requires : goal.index_mut-slot-requires
index_mut-slot-requires g c =
    let lt = place_within c.self.inside.slots.items c.in-Some.place (subst (λ v. IsSome (row_at c.in-Some.place v.slots)) (sym c.self.view_is) c.in-Some.ensures.row) in
    omega arith

pub invariant_of-self : goal.invariant_of-self
invariant_of-self g c =
    let ss = c.self.inside.slots.items in
    let s = c.index_mut-slot.result.now in
    let some = subst (λ v. IsSome (row_at c.in-Some.place v.slots)) (sym c.self.view_is) c.in-Some.ensures.row in
    rw (c.park_in.ensures, c.index_mut-slot.ensures.value)
    (sound_set ss c.self.inside.count c.in-Some.place (parked_with c.args.size) s (λ r. refl) some c.self.invariant)

pub returns-clause-rows : goal.returns-clause-rows
returns-clause-rows g c =
    let ss = c.self.inside.slots.items in
    let s = c.index_mut-slot.result.now in
    let i = c.in-Some.place in
    let some = subst (λ v. IsSome (row_at i v.slots)) (sym c.self.view_is) c.in-Some.ensures.row in
    let found = subst (λ v. IsPlaceOf number_in (rows_of v) c.args.number (rank i v.slots)) (sym c.self.view_is) c.in-Some.ensures.found in
    rows_numbered ss i c.args.number (parked_with c.args.size) s c.park_in.new.slot (c.park_in.ensures ∙ ap (on_row (parked_with c.args.size)) c.index_mut-slot.ensures.value) some found
    ∙ ap (λ v. on_first (λ r. number_in r == c.args.number) (parked_with c.args.size) (rows_of v)) c.self.view_is
