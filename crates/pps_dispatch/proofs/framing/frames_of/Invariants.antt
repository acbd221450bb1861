use Rattle.std.proofs.Common.{◌≡◌, ◌++◌, drop}
use Rattle.pps_types.specs.Merge.{entries_of}
use Rattle.pps_dispatch.specs.History.{joined, frames_of, frames_for}
use Rattle.pps_dispatch.proofs.framing.frames_of.Given as goal

abbrev pub invariant-loop-name : goal.invariant-loop-name
invariant-loop-name l =
    l.frames.items ++ frames_of (drop l.name-index (entries_of l.session.connection (joined l.segments)))
    ≡ frames_for l.session.connection (joined l.segments)
