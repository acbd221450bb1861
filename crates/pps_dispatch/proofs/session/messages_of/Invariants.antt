use Rattle.std.proofs.Common.{◌≡◌}
use Rattle.pps_dispatch.proofs.session.messages_of.Given as goal

abbrev pub invariant-loop-event : goal.invariant-loop-event
invariant-loop-event l = l.messages.items ≡ l.yielded
