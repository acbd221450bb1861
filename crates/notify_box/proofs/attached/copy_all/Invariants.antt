use Rattle.std.proofs.Common.{◌≡◌, map, take, vec_len, vec_capacity}
use Rattle.notify_box.specs.Standing.{standing_of}
use Rattle.notify_box.proofs.attached.copy_all.Given as goal

abbrev pub invariant-loop-one : goal.invariant-loop-one
invariant-loop-one l = record {
  standing : map standing_of l.copy.items ≡ map standing_of (take l.one-index l.attached);
  len : vec_len l.copy ≡ l.one-index;
  capacity : vec_capacity l.copy ≡ l.one-index-end;
}
