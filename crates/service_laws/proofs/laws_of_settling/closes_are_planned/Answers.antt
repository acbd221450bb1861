use Rattle.service_laws.proofs.SettlingCloses.{closings-planned, detach-planned}
use Rattle.service_laws.proofs.laws_of_settling.closes_are_planned.Goals as goal

pub returns : goal.returns
returns c = record { closes = closings-planned; detach = detach-planned }
