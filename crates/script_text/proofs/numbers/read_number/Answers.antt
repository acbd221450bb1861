use Rattle.std.proofs.Common.{sym}
use Rattle.script_text.proofs.NumberWords.{not-whole}
use Rattle.script_text.proofs.numbers.read_number.Goals as goal

pub returns-then-digits-word-clause-value : goal.returns-then-digits-word-clause-value
returns-then-digits-word-clause-value c = sym (not-whole c.args.most c.args.word.now _ c.leading_digits-digits.ensures c.if-digits-word.true)
