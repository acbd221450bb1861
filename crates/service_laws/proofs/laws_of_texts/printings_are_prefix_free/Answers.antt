use Rattle.service_laws.proofs.TextLaws.{print_line-prefix_free}
use Rattle.service_laws.proofs.laws_of_texts.printings_are_prefix_free.Goals as goal

pub returns : goal.returns
returns c = print_line-prefix_free
