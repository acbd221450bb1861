use Rattle.std.proofs.Common.{◌≡◌, ◌++◌, map}
use Rattle.std.specs.Vec.Iter.{into_iter_items}
use Rattle.pps_types.specs.History.{message_line}
use Rattle.handle_requests.proofs.message.message_lines.Given as goal

abbrev pub invariant-lines : goal.invariant-lines
invariant-lines l = l.told.items ++ map message_line (into_iter_items l.line-iterator) ≡ map message_line l.fn.lines.items
