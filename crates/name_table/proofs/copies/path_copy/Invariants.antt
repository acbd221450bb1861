use Rattle.std.proofs.Common.{◌≡◌, ◌++◌, drop}
use Rattle.name_table.proofs.copies.path_copy.Given as goal

abbrev pub invariant-names : goal.invariant-names
invariant-names l = l.copy.items ++ drop l.name-index l.path ≡ l.path
