use Rattle.std.proofs.Common.{◌≡◌, ◌≤◌, ◌+◌, drop, length}
use Rattle.pps_types.specs.History.{persistent}
use Rattle.pps_engine.proofs.saved_attributes.count_persistent.Given as goal

-- those that were counted, and those still to come
abbrev pub invariant-loop-index : goal.invariant-loop-index
invariant-loop-index l = record {
  counted : l.count + length (persistent (drop l.index l.object.attributes)) ≡ length (persistent l.object.attributes);
  few : l.count ≤ l.index;
}
