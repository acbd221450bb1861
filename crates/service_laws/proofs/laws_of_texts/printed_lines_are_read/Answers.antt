use Rattle.service_laws.proofs.TextLaws.{write_text-print_lines}
use Rattle.service_laws.proofs.laws_of_texts.printed_lines_are_read.Goals as goal

pub returns : goal.returns
returns c = write_text-print_lines
