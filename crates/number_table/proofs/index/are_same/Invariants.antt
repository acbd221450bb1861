use Rattle.std.proofs.Common.{◌≡◌, length}
use Rattle.std.specs.Cmp.Lexicographic.{pointwise}
use Rattle.number_table.specs.Numbered.{is_same_entry}
use Rattle.number_table.specs.Index.{entries_in, slots_in}
use Rattle.number_table.proofs.index.are_same.Given as goal

-- so far they are the same, so what is left decides
abbrev pub invariant-loop-our : goal.invariant-loop-our
invariant-loop-our g l =
    pointwise (is_same_entry g.T.PartialEq.eq) (entries_in (slots_in l.values l.index)) (entries_in (slots_in l.other_values l.other_index))
    ≡ pointwise (is_same_entry g.T.PartialEq.eq) (entries_in (slots_in l.values l.ours)) (entries_in (slots_in l.other_values l.theirs))

abbrev pub decreases-loop-our : goal.decreases-loop-our
decreases-loop-our g l = length (entries_in (slots_in l.values l.ours))
