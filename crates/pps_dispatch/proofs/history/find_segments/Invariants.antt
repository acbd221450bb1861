use Rattle.std.proofs.Common.{take}
use Rattle.pps_dispatch.specs.Search.{FindsSegments}
use Rattle.pps_dispatch.proofs.history.find_segments.Given as goal

abbrev pub invariant-loop-segment : goal.invariant-loop-segment
invariant-loop-segment l = FindsSegments l.asked l.answered l.initial.found l.found (take l.segment-index l.segments)
