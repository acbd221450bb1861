use Rattle.script_text.proofs.Replies.{answers-told}
use Rattle.script_text.proofs.laws.answers_are_told.Goals as goal

pub returns : goal.returns
returns c = answers-told
