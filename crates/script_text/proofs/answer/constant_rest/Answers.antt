use Rattle.std.proofs.Common.{◌≡◌, ◌++◌, ◌∷◌, [], Ok, length, codes, ap, sym, ◌∙◌, arith}
use Rattle.std.proofs.lemmas.Fmt.{decimal_digit}
use Rattle.std.proofs.lemmas.Bool.{eqb-true}
use Rattle.std.proofs.lemmas.List.{nil_from_length}
use Rattle.pps_types.specs.declared.outcome.Outcome.TheVariants.{Data}
use Rattle.script_text.specs.Answer.{answer_words}
use Rattle.script_text.proofs.answer.constant_rest.Goals as goal

pub returns-in-Data : goal.returns-in-Data
returns-in-Data c =
    let bytes = c.as_slice.result.now in
    let none = sym c.as_slice.ensures ∙ nil_from_length bytes (eqb-true (length bytes) 0 (sym c.if-is_empty.ensures)) in
    let is : c.args.answer.now ≡ Ok (Data []) = c.in-Ok.is ∙ ap Ok (c.in-Data.is ∙ ap Data none) in
    ap (λ digits. 32 ∷ (codes "data " ++ (digits ++ []) ++ 10 ∷ [])) (sym (decimal_digit 0 (omega (arith))))
    ∙ ap (λ words. 32 ∷ (words ++ 10 ∷ [])) (sym (ap answer_words is))
