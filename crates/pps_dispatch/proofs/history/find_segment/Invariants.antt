use Rattle.std.proofs.Common.{take}
use Rattle.pps_dispatch.specs.Search.{FindsEach}
use Rattle.pps_dispatch.proofs.history.find_segment.Given as goal

abbrev pub invariant-loop-place : goal.invariant-loop-place
invariant-loop-place l = FindsEach l.asked l.answered l.initial.found l.found l.segment.number 0 (take l.place l.segment.entries)
