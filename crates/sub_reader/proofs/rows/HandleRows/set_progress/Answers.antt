use Rattle.std.proofs.Common.{◌∙◌, ◌<◌, get_or, set, length, subst, ap, sym, refl, arith}
use Rattle.std.specs.Prelude.{IsSome}
use Rattle.sub_reader.specs.Rows.{row_at, rows_in, rows_of, rank, on_row, with_progress}
use Rattle.std.proofs.lemmas.List.{get_or_default}
use Rattle.sub_reader.proofs.Gaps.{place_within, sound_set, rows_set}
use Rattle.sub_reader.proofs.rows.HandleRows.set_progress.Goals as goal

pub index_mut-slot-requires : goal.index_mut-slot-requires
index_mut-slot-requires g c =
    let lt = place_within c.self.inside.slots.items c.args.place (subst (λ v. IsSome (row_at c.args.place v.slots)) (sym c.self.view_is) c.requires) in
    omega arith

pub invariant_of-self : goal.invariant_of-self
invariant_of-self g c =
    let ss = c.self.inside.slots.items in
    let s = c.index_mut-slot.result.now in
    let some = subst (λ v. IsSome (row_at c.args.place v.slots)) (sym c.self.view_is) c.requires in
    rw (c.progress_in.ensures, c.index_mut-slot.ensures.value)
    (sound_set ss c.self.inside.count c.args.place (with_progress c.args.progress) s (λ r. refl) some c.self.invariant)

pub returns-clause-rows : goal.returns-clause-rows
returns-clause-rows g c = λ d.
    let ss = c.self.inside.slots.items in
    let s = c.index_mut-slot.result.now in
    let some = subst (λ v. IsSome (row_at c.args.place v.slots)) (sym c.self.view_is) c.requires in
    ap (λ t. rows_in (set ss c.args.place t)) (c.progress_in.ensures ∙ ap (on_row (with_progress c.args.progress)) c.index_mut-slot.ensures.value)
    ∙ rows_set ss c.args.place (with_progress c.args.progress) s d some
    ∙ ap (λ v. set (rows_of v) (rank c.args.place v.slots) (with_progress c.args.progress (get_or (rows_of v) (rank c.args.place v.slots) d))) c.self.view_is

pub returns-clause-slots : goal.returns-clause-slots
returns-clause-slots g c = λ d.
    let ss = c.self.inside.slots.items in
    let s = c.index_mut-slot.result.now in
    let some = subst (λ v. IsSome (row_at c.args.place v.slots)) (sym c.self.view_is) c.requires in
    let lt : c.args.place < length ss = place_within ss c.args.place some in
    ap (set ss c.args.place) (c.progress_in.ensures ∙ ap (on_row (with_progress c.args.progress)) (c.index_mut-slot.ensures.value ∙ get_or_default ss c.args.place s d lt))
    ∙ ap (λ v. set v.slots c.args.place (on_row (with_progress c.args.progress) (get_or v.slots c.args.place d))) c.self.view_is
