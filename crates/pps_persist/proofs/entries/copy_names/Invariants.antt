use Rattle.std.proofs.Common.{◌≡◌, take}
use Rattle.pps_persist.proofs.entries.copy_names.Given as goal

abbrev pub invariant-names : goal.invariant-names
invariant-names l = l.copy.items ≡ take l.name-index l.names
