use Rattle.std.proofs.Common.{◌≡◌, take}
use Rattle.sub_reader.proofs.copies.same_records.Given as goal

abbrev pub invariant-loop-i : goal.invariant-loop-i
invariant-loop-i l = take l.i l.one.items ≡ take l.i l.other.items
