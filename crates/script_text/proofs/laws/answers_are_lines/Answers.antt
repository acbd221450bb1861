use Rattle.script_text.proofs.Visible.{answers-visible}
use Rattle.script_text.proofs.laws.answers_are_lines.Goals as goal

pub returns : goal.returns
returns c = answers-visible
