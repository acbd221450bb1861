use Rattle.std.proofs.Common.{◌≡◌, ◌+◌, drop, length}
use Rattle.whole_texts.specs.Listed.{print_listing}
use Rattle.whole_texts.proofs.listed.listing_len.Given as goal

abbrev pub invariant-entries : goal.invariant-entries
invariant-entries l = l.total + length (print_listing (drop l.entry-index l.entries)) ≡ length (print_listing l.entries)
