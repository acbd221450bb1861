use Rattle.script_text.proofs.Decimals.{number-decimal, number-only}
use Rattle.script_text.proofs.laws.numbers_are_decimal.Goals as goal

pub returns : goal.returns
returns c = record { reads = number-decimal; only = number-only }
