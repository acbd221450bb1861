use Rattle.std.proofs.Common.{◌≡◌, ◌++◌, drop}
use Rattle.pps_engine.specs.EventTold.{closes_in}
use Rattle.pps_engine.proofs.settled.handles_of.Given as goal

-- what is gathered, and what is still to come
abbrev pub invariant-beginning : goal.invariant-beginning
invariant-beginning l = l.handles.items ++ closes_in (drop l.each-index l.beginning) ≡ closes_in l.beginning
