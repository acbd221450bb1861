use Rattle.std.proofs.Common.{◌≡◌, drop}
use Rattle.pps_types.specs.History.{persistent}
use Rattle.pps_engine.proofs.saved_attributes.first_persistent.Given as goal

-- none was persistent so far
abbrev pub invariant-loop-index : goal.invariant-loop-index
invariant-loop-index l = persistent (drop l.index l.object.attributes) ≡ persistent (drop l.fn.place l.object.attributes)
