use Rattle.std.proofs.Common.{◌≡◌, ◌+◌, ◌++◌, drop, length}
use Rattle.std.specs.Option.{option_copied}
use Rattle.whole_texts.specs.Whole.{print_all, print_opening}
use Rattle.whole_texts.proofs.whole.parts_len.Given as goal

abbrev pub invariant-members : goal.invariant-members
invariant-members l = l.total + length (print_all l.kind (option_copied l.filter) l.over l.alive (drop l.member-index l.members)) ≡ length (print_opening l.kind l.over ++ print_all l.kind (option_copied l.filter) l.over l.alive l.members)
