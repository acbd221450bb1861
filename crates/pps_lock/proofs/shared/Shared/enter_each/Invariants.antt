use Rattle.std.proofs.Common.{◌≤◌, ◌+◌, ◌-◌, length, take, vec_len, vec_capacity}
use Rattle.pps_lock.specs.Trace.{EntersAll}
use Rattle.pps_lock.proofs.shared.Shared.enter_each.Given as goal

abbrev pub invariant-loop-message : goal.invariant-loop-message
invariant-loop-message g l =
    EntersAll (take l.message-index l.messages) l.fn.names.items l.names.items
    × (vec_len l.names + (length l.messages - l.message-index) ≤ vec_capacity l.names)
