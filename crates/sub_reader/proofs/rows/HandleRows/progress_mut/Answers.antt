use Rattle.std.proofs.Common.{◌∙◌, set, refl, sym, ap, subst, arith}
use Rattle.std.specs.Prelude.{IsSome}
use Rattle.std.specs.Option.{option_map}
use Rattle.sub_reader.specs.declared.row.HandleRow.{HandleRow}
use Rattle.sub_reader.specs.declared.row.Slot.{Slot}
use Rattle.sub_reader.specs.Rows.{IsSound, row_of, row_at, on_row, with_progress, progress_at}
use Rattle.sub_reader.proofs.Gaps.{place_within, row_here, sound_set, changed_is}
use Rattle.sub_reader.proofs.rows.HandleRows.progress_mut.Goals as goal

pub index_mut-requires : goal.index_mut-requires
index_mut-requires g c =
    let lt = place_within c.self.inside.slots.items c.args.place (subst (λ v. IsSome (row_at c.args.place v.slots)) (sym c.self.view_is) c.requires) in
    omega arith

pub progress_mut-requires : goal.progress_mut-requires
progress_mut-requires g c =
    let ss = c.self.inside.slots.items in
    let some = subst (λ v. IsSome (row_at c.args.place v.slots)) (sym c.self.view_is) c.requires in
    subst IsSome (sym (ap row_of c.index_mut.ensures.value ∙ row_here ss c.args.place c.index_mut.result.now (place_within ss c.args.place some))) some

pub invariant_of-self-lent : goal.invariant_of-self-lent
invariant_of-self-lent g c w =
    let ss = c.self.inside.slots.items in
    let s = c.index_mut.result.now in
    let some = subst (λ v. IsSome (row_at c.args.place v.slots)) (sym c.self.view_is) c.requires in
    subst (λ (t : Slot g.row.P.Denot). IsSound (set ss c.args.place (on_row (with_progress w) t)) c.self.inside.count) (sym c.index_mut.ensures.value)
    (sound_set ss c.self.inside.count c.args.place (with_progress w) s (λ r. refl) some c.self.invariant)

pub returns : goal.returns
returns g c =
    let ss = c.self.inside.slots.items in
    let s = c.index_mut.result.now in
    let some = subst (λ v. IsSome (row_at c.args.place v.slots)) (sym c.self.view_is) c.requires in (
      (refl, λ w. rw (← c.self.view_is, c.index_mut.ensures.value, changed_is ss c.args.place (with_progress w) s) refl),
      record {
        writes_back = tt;
        value =
            ap (progress_at c.args.place) (sym c.self.view_is)
            ∙ ap (option_map (λ (r : HandleRow g.row.P.Denot). r.progress)) (sym (ap row_of c.index_mut.ensures.value ∙ row_here ss c.args.place s (place_within ss c.args.place some)))
            ∙ c.progress_mut.ensures.value;
      },
    )
