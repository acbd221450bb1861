use Rattle.image_laws.proofs.Wrong.{first-wrong, wrong-first}
use Rattle.image_laws.proofs.laws.the_first_wrong_line_is_named.Goals as goal

pub returns : goal.returns
returns c = record { named = first-wrong; no_other = wrong-first }
