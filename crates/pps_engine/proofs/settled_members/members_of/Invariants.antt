use Rattle.std.proofs.Common.{◌≡◌, map, take}
use Rattle.pps_engine.specs.Behind.{row_member}
use Rattle.pps_engine.proofs.settled_members.members_of.Given as goal

abbrev pub invariant-rows : goal.invariant-rows
invariant-rows l = l.members.items ≡ map row_member (take l.row-index l.rows)
