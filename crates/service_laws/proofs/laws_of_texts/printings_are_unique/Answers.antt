use Rattle.service_laws.proofs.TextLaws.{print_line-unique}
use Rattle.service_laws.proofs.laws_of_texts.printings_are_unique.Goals as goal

pub returns : goal.returns
returns c = print_line-unique
