use Rattle.std.proofs.Common.{◌≡◌, take}
use Rattle.notify_box.proofs.alike.same_items.Given as goal

abbrev pub invariant-loop-i : goal.invariant-loop-i
invariant-loop-i l = take l.i l.one.items ≡ take l.i l.other.items
