use Rattle.std.proofs.Common.{◌≡◌, ◌+◌, ◌≤◌, ◌++◌, drop, length}
use Rattle.std.specs.Prelude.{vec_len, vec_capacity}
use Rattle.std.specs.Option.{option_copied}
use Rattle.whole_texts.specs.Whole.{print_all}
use Rattle.whole_texts.proofs.whole.push_members.Given as goal

abbrev pub invariant-members : goal.invariant-members
invariant-members l =
    (l.out.items ++ print_all l.kind (option_copied l.filter) l.over l.alive (drop l.member-index l.members) ≡ l.fn.out.items ++ print_all l.kind (option_copied l.filter) l.over l.alive l.members)
    × (vec_len l.out + length (print_all l.kind (option_copied l.filter) l.over l.alive (drop l.member-index l.members)) ≤ vec_capacity l.out)
