use Rattle.std.proofs.Common.{◌≡◌, ◌∙◌, ◌≤◌, length, sym, ap, arith, Some}
use Rattle.pps_types.specs.declared.line.Line.TheVariants.{Set}
use Rattle.pps_types.proofs.SetTexts.{name-of, enc-of, value-of, is-set-text, held-is}
use Rattle.pps_types.proofs.held_line.HeldLine.from_line.Goals as goal

pub set-requires : goal.set-requires
set-requires c =
    is-set-text c.as_slice-2.result.now c.as_slice.result.now c.as_slice-in-Set.result.now c.as_slice-in-Set-2.result.now (c.as_slice-2.ensures.value ∙ c.in_ok-text.ensures)

pub returns : goal.returns
returns c =
    let text = c.as_slice-2.ensures.value ∙ c.in_ok-text.ensures in
    let name = c.as_slice.result.now in
    let enc = c.as_slice-in-Set.result.now in
    let value = c.as_slice-in-Set-2.result.now in
    let short_name : length name ≤ 255 = omega arith in
    let short_enc : length enc ≤ 255 = omega arith in
    ap Some (c.in_ok-set.ensures ∙ (λ i. Set (name-of _ name enc value text i) (enc-of _ name enc value text i) (value-of _ name enc value text i) c.in-Set.n))
    ∙ held-is c.args.line.now name enc value c.in-Set.n
    (c.in-Set.is ∙ (λ i. Set (sym c.as_slice.ensures i) (sym c.as_slice-in-Set.ensures i) (sym c.as_slice-in-Set-2.ensures i) c.in-Set.n))
    short_name short_enc
