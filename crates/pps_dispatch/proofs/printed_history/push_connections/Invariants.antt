use Rattle.std.proofs.Common.{◌≡◌, ◌++◌, take}
use Rattle.pps_dispatch.specs.Printed.{history_text}
use Rattle.pps_dispatch.proofs.printed_history.push_connections.Given as goal

abbrev pub invariant-loop-entry : goal.invariant-loop-entry
invariant-loop-entry l = l.out.items ≡ l.initial.out.items ++ history_text (take l.entry-index l.entries)
