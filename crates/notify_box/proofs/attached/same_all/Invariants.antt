use Rattle.std.proofs.Common.{◌≡◌, map, take}
use Rattle.notify_box.specs.Standing.{standing_of}
use Rattle.notify_box.proofs.attached.same_all.Given as goal

abbrev pub invariant-loop-i : goal.invariant-loop-i
invariant-loop-i l = map standing_of (take l.i l.one) ≡ map standing_of (take l.i l.other)
