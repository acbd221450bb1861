use Rattle.std.proofs.Common.{◌+◌, ◌≤◌}
use Rattle.open_options.proofs.path.elements_in.Given as goal

abbrev pub invariant-loop-byte : goal.invariant-loop-byte
invariant-loop-byte l = l.elements ≤ l.byte-index + 1
