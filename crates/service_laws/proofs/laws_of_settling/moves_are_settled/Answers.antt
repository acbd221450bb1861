use Rattle.service_laws.proofs.SettlingHandles.{handles-after}
use Rattle.service_laws.proofs.Settling.{settling-silent, settling-wakes}
use Rattle.service_laws.proofs.laws_of_settling.moves_are_settled.Goals as goal

pub returns : goal.returns
returns c = record { handles = handles-after; silent = settling-silent; told = settling-wakes }
