-- Both runs' events are those of the run in which the others are silent.
use Rattle.std.specs.Prelude.{◌≡◌, ◌∷◌, [], ◌++◌, List, Ok, codes, refl}
use Rattle.std.proofs.Common.{sym, ◌∙◌}
use Rattle.std.specs.Fmt.{digits}
use Rattle.pps_types.specs.declared.event.Event.{Event}
use Rattle.pps_types.specs.declared.outcome.Item.{Item}
use Rattle.pps_types.specs.declared.outcome.Item.TheVariants.{Pulse, ReadDone}
use Rattle.pps_types.specs.Machine.{start, machine}
use Rattle.pps_types.specs.Runs.{queued_in}
use Rattle.pps_types.specs.Privacy.{shared_events}
use Rattle.worked_rows.specs.PrivateTraffic.{beside, waiting_alone}
use Rattle.worked_rows.specs.Scripts.APlainObjectAlone.{events as alone_events}
use Rattle.worked_rows.proofs.private_traffic.waiter_notices_nothing.Goals as goal

beside_shares : shared_events 2 (start 1 256) beside ≡ alone_events
unfolding digits machine
beside_shares = refl

alone_shares : shared_events 2 (start 1 256) waiting_alone ≡ alone_events
unfolding digits machine
alone_shares = refl

abbrev given : List Item
given = Pulse 7 9 ∷ ReadDone 5 (Ok (codes "@p" ++ 10 ∷ codes "a::1" ++ 10 ∷ [])) ∷ []

beside_gives : queued_in 2 (start 1 256) beside ≡ given
unfolding digits machine
beside_gives = refl

alone_gives : queued_in 2 (start 1 256) waiting_alone ≡ given
unfolding digits machine
alone_gives = refl

pub returns : goal.returns
unfolding digits machine
returns c = record {
  notices = record { agree = record { same_events = beside_shares ∙ sym alone_shares; first_quiet = refl; second_quiet = refl }; replies = refl };
  queued = beside_gives ∙ sym alone_gives;
  told = beside_gives;
}
