use Rattle.std.proofs.Common.{◌≡◌, take}
use Rattle.pps_dispatch.specs.History.{joined}
use Rattle.pps_dispatch.specs.Printed.{history_text}
use Rattle.pps_dispatch.proofs.printed_history.write_history.Given as goal

abbrev pub invariant-loop-segment : goal.invariant-loop-segment
invariant-loop-segment g l = l.text.items ≡ history_text (joined (take l.segment-index l.segments))
