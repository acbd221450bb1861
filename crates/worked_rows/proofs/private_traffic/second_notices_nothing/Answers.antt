-- Both runs' events are those that the two share, once what is foreign to connection 3 is left away.
use Rattle.std.specs.Prelude.{◌≡◌, List, take, refl}
use Rattle.std.proofs.Common.{sym, ◌∙◌}
use Rattle.std.specs.Fmt.{digits}
use Rattle.pps_types.specs.declared.event.Event.{Event}
use Rattle.pps_types.specs.Machine.{start, machine}
use Rattle.pps_types.specs.Privacy.{shared_events}
use Rattle.worked_rows.specs.PrivateTraffic.{both, second_alone}
use Rattle.worked_rows.specs.Scripts.PrivateTrafficOtherWay.{events as second_events}
use Rattle.worked_rows.proofs.private_traffic.second_notices_nothing.Goals as goal

abbrev shared : List Event
shared = take 10 second_events

both_share : shared_events 3 (start 1 256) both ≡ shared
unfolding digits machine
both_share = refl

alone_shares : shared_events 3 (start 1 256) second_alone ≡ shared
unfolding digits machine
alone_shares = refl

pub returns : goal.returns
unfolding digits machine
returns c = record { agree = record { same_events = both_share ∙ sym alone_shares; first_quiet = refl; second_quiet = refl }; replies = refl }
