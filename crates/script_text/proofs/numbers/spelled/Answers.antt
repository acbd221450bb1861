use Rattle.std.proofs.Common.{◌∙◌, arith, sym}
use Rattle.script_text.proofs.NumberWords.{spell-none, spell-leading, spell-leading-zero, fits, too-large}
use Rattle.script_text.proofs.numbers.spelled.Goals as goal

pub returns-then-digits-eq0-clause-value : goal.returns-then-digits-eq0-clause-value
returns-then-digits-eq0-clause-value c = rw c.if-digits-eq0.true (sym (spell-none c.args.most))

pub returns-then-has_leading_zero-clause-value : goal.returns-then-has_leading_zero-clause-value
returns-then-has_leading_zero-clause-value c =
    sym (spell-leading-zero c.args.most c.args.text.now c.args.digits.now c.requires (omega (arith, c.if-digits-eq0.false)) (sym c.has_leading_zero.ensures ∙ c.if-has_leading_zero.true))

pub returns-then-digits-from-clause-value : goal.returns-then-digits-from-clause-value
returns-then-digits-from-clause-value c =
    sym (spell-leading c.args.most c.args.text.now c.args.digits.now c.requires (omega (arith, c.if-digits-eq0.false)) (sym c.has_leading_zero.ensures ∙ c.if-has_leading_zero.false)
    ∙ too-large c.args.most c.args.digits.now.number (omega (arith, c.from.ensures, c.if-digits-from.true)))

pub returns-clause-value : goal.returns-clause-value
returns-clause-value c =
    sym (spell-leading c.args.most c.args.text.now c.args.digits.now c.requires (omega (arith, c.if-digits-eq0.false)) (sym c.has_leading_zero.ensures ∙ c.if-has_leading_zero.false)
    ∙ fits c.args.most c.args.digits.now.number (omega (arith, c.from.ensures, c.if-digits-from.false)))
