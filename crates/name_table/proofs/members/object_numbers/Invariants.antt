use Rattle.std.proofs.Common.{◌≡◌, ◌++◌, drop}
use Rattle.std.specs.List.{filter_map}
use Rattle.name_table.specs.Listed.{object_number}
use Rattle.name_table.proofs.members.object_numbers.Given as goal

abbrev pub invariant-members : goal.invariant-members
invariant-members l = l.numbers.items ++ filter_map (λ m. object_number m.1) (drop l.member-index l.members) ≡ filter_map (λ m. object_number m.1) l.members
