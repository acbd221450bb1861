use Rattle.std.proofs.Common.{refl, sym, ◌∙◌}
use Rattle.std.proofs.lemmas.List.{take_rest}
use Rattle.script_text.proofs.NumberWords.{not-word, whole-word}
use Rattle.script_text.proofs.numbers.read_number_word.Goals as goal

pub returns-then-not-has_space_at-clause-value : goal.returns-then-not-has_space_at-clause-value
returns-then-not-has_space_at-clause-value c =
    sym (not-word c.args.most c.args.text.now _ c.leading_digits-digits.ensures (sym c.has_space_at.ensures.space ∙ c.if-not-has_space_at.true))

pub returns-in_err-number-clause-value : goal.returns-in_err-number-clause-value
returns-in_err-number-clause-value c =
    let word = whole-word c.args.most c.args.text.now _ c.leading_digits-digits.ensures (sym c.has_space_at.ensures.space ∙ c.if-not-has_space_at.false) in
    rw (c.from_residual.ensures, word, sym c.in_err-number.ensures.value) refl

pub returns-clause-value : goal.returns-clause-value
returns-clause-value c =
    let word = whole-word c.args.most c.args.text.now _ c.leading_digits-digits.ensures (sym c.has_space_at.ensures.space ∙ c.if-not-has_space_at.false) in
    rw (take_rest, word, sym c.in_ok-number.ensures.value) refl
