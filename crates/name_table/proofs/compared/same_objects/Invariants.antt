use Rattle.std.proofs.Common.{◌≡◌, map}
use Rattle.name_table.specs.Standing.{known_of}
use Rattle.name_table.proofs.compared.same_objects.Given as goal

-- so far they are the same, so what is left decides
abbrev pub invariant-loop-our : goal.invariant-loop-our
invariant-loop-our l = (map known_of l.fn.one ≡ map known_of l.fn.other → map known_of l.ours ≡ map known_of l.theirs) × (map known_of l.ours ≡ map known_of l.theirs → map known_of l.fn.one ≡ map known_of l.fn.other)
