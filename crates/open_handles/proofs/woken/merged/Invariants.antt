use Rattle.std.proofs.Common.{◌≡◌, ◌++◌, length, ◌+◌}
use Rattle.open_handles.specs.United.{united}
use Rattle.open_handles.proofs.woken.merged.Given as goal

abbrev pub invariant-lowest : goal.invariant-lowest
invariant-lowest l = l.all.items ++ united l.one_left l.other_left ≡ united l.fn.one.items l.fn.other.items

abbrev pub decreases-lowest : goal.decreases-lowest
decreases-lowest l = length l.one_left + length l.other_left
