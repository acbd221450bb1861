use Rattle.script_text.proofs.Spellings.{commands-read}
use Rattle.script_text.proofs.laws.commands_are_read.Goals as goal

pub returns : goal.returns
returns c = commands-read
