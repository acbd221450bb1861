use Rattle.std.proofs.Common.{◌≡◌, take}
use Rattle.pps_dispatch.proofs.session.shares_of.Given as goal

abbrev pub invariant-loop-message : goal.invariant-loop-message
invariant-loop-message l = l.shares.items ≡ take l.message-index l.messages
