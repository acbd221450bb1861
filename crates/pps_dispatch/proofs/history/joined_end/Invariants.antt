use Rattle.std.proofs.Common.{drop}
use Rattle.pps_types.specs.Content.{Content}
use Rattle.pps_dispatch.specs.History.{Joins}
use Rattle.pps_dispatch.proofs.history.joined_end.Given as goal

abbrev pub invariant-loop-number : goal.invariant-loop-number
invariant-loop-number l = (d : Content) → Joins l.number l.end.content (drop l.number l.segments) d → Joins 0 l.first.content l.segments d
