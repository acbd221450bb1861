use Rattle.name_table.proofs.Listed.{members_listed}
use Rattle.name_table.proofs.laws.members_are_listed.Goals as goal

pub returns : goal.returns
returns c = members_listed
