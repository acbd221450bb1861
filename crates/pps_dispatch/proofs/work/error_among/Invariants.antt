use Rattle.std.proofs.Common.{◌≡◌, drop}
use Rattle.pps_dispatch.specs.History.{first_error}
use Rattle.pps_dispatch.proofs.work.error_among.Given as goal

abbrev pub invariant-loop-worked : goal.invariant-loop-worked
invariant-loop-worked l = first_error l.ended ≡ first_error (drop l.worked-index l.ended)
