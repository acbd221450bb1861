use Rattle.std.proofs.Common.{length}
use Rattle.pps_dispatch.proofs.Lines.{ReadSoFar}
use Rattle.pps_dispatch.proofs.scripts.asked_messages.Given as goal

abbrev pub invariant-lines : goal.invariant-lines
invariant-lines l = ReadSoFar l.conn l.text l.rest l.messages.items l.number

abbrev pub decreases-lines : goal.decreases-lines
decreases-lines l = length l.rest
