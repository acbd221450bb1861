use Rattle.std.proofs.Common.{◌≡◌, ◌+◌, ◌-◌, ◌<◌, ◌∷◌, length, take, drop, ap, ◌∙◌, arith}
use Rattle.std.proofs.lemmas.List.{take_all, length-drop}
use Rattle.pps_types.specs.Bytes.{pieces}
use Rattle.open_options.proofs.Elements.{cut_at, cut_none}
use Rattle.open_options.proofs.path.first_element.Goals as goal

pub returns-then-end-text-clause-elements : goal.returns-then-end-text-clause-elements
returns-then-end-text-clause-elements c = cut_none c.args.text.now (λ j low. c.until_slash-end.ensures.before j (omega (arith, low, c.if-end-text.true)))

pub returns-clause-elements : goal.returns-clause-elements
returns-clause-elements c =
    let end = c.until_slash-end.result in
    let within : end < length c.args.text.now = omega (arith, c.until_slash-end.ensures.within, c.if-end-text.false) in
    let all : take (length c.args.text.now - (end + 1)) (drop (end + 1) c.args.text.now) ≡ drop (end + 1) c.args.text.now = take_all (length c.args.text.now - (end + 1)) (drop (end + 1) c.args.text.now) (simp length-drop (omega (arith, within))) in
    ap (λ l. take end c.args.text.now ∷ pieces 47 l) all
    ∙ cut_at c.args.text.now end within (λ j low. c.until_slash-end.ensures.before j low) (c.until_slash-end.ensures.slash within)
