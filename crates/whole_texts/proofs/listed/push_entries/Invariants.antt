use Rattle.std.proofs.Common.{◌≡◌, ◌+◌, ◌≤◌, ◌++◌, drop, length}
use Rattle.std.specs.Prelude.{vec_len, vec_capacity}
use Rattle.whole_texts.specs.Listed.{print_listing}
use Rattle.whole_texts.proofs.listed.push_entries.Given as goal

abbrev pub invariant-entries : goal.invariant-entries
invariant-entries l =
    (l.out.items ++ print_listing (drop l.entry-index l.entries) ≡ l.fn.out.items ++ print_listing l.entries)
    × (vec_len l.out + length (print_listing (drop l.entry-index l.entries)) ≤ vec_capacity l.out)
