use Rattle.std.proofs.Common.{◌≡◌, ◌+◌, ◌-◌, ◌∷◌, [], ◌++◌, arith, refl, sym, ap, ◌∙◌, Some}
use Rattle.std.specs.Prelude.{slice_get}
use Rattle.sub_reader.proofs.Copying.{taken}
use Rattle.sub_reader.proofs.copies.same_records.Goals as goal

pub loop-i-preserved : goal.loop-i-preserved
loop-i-preserved c =
    let i = c.loop-i.i in
    let one = c.args.one.now in
    let other = c.args.other.now in
    let x = c.at.result.now in
    let y = c.at-in-loop-i.result.now in
    let first : c.start-in-loop-i.result + i - one.start ≡ i = omega (arith, c.start-in-loop-i.ensures) in
    let second : c.start-in-loop-i-2.result + i - other.start ≡ i = omega (arith, c.start-in-loop-i-2.ensures) in
    let here : slice_get one.items i ≡ Some x = ap (slice_get one.items) (sym first) ∙ c.at.ensures in
    let there : slice_get other.items i ≡ Some y = ap (slice_get other.items) (sym second) ∙ c.at-in-loop-i.ensures in
    taken one.items i i (i + 1) x here refl refl
    ∙ (λ j. c.loop-i.invariant j ++ c.same.ensures.0 c.if-not-same.false j ∷ [])
    ∙ sym (taken other.items i i (i + 1) y there refl refl)
