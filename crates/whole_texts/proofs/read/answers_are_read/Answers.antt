use Rattle.whole_texts.proofs.ListingsTold.{answers-read}
use Rattle.whole_texts.proofs.read.answers_are_read.Goals as goal

pub returns : goal.returns
returns c = answers-read
