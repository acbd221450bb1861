use Rattle.std.proofs.Common.{◌≡◌}
use Rattle.name_table.proofs.compared.same_directories.Given as goal

-- so far they are the same, so what is left decides
abbrev pub invariant-loop-our : goal.invariant-loop-our
invariant-loop-our l = (l.fn.one ≡ l.fn.other → l.ours ≡ l.theirs) × (l.ours ≡ l.theirs → l.fn.one ≡ l.fn.other)
