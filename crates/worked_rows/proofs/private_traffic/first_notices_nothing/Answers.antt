-- Both runs' events are those that the two share, once what is foreign to connection 2 is left away.
use Rattle.std.specs.Prelude.{◌≡◌, List, refl}
use Rattle.std.proofs.Common.{sym, ◌∙◌}
use Rattle.std.specs.Fmt.{digits}
use Rattle.pps_types.specs.declared.event.Event.{Event}
use Rattle.pps_types.specs.Machine.{start, machine}
use Rattle.pps_types.specs.Privacy.{shared_events}
use Rattle.worked_rows.specs.PrivateTraffic.{both, first_alone}
use Rattle.worked_rows.specs.Scripts.PrivateTrafficWithoutTheOther.{events as first_events}
use Rattle.worked_rows.proofs.private_traffic.first_notices_nothing.Goals as goal

abbrev shared : List Event
shared = first_events

both_share : shared_events 2 (start 1 256) both ≡ shared
unfolding digits machine
both_share = refl

alone_shares : shared_events 2 (start 1 256) first_alone ≡ shared
unfolding digits machine
alone_shares = refl

pub returns : goal.returns
unfolding digits machine
returns c = record { agree = record { same_events = both_share ∙ sym alone_shares; first_quiet = refl; second_quiet = refl }; replies = refl }
