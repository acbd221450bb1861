-- Runs that differ only in what others' clients and their server do between themselves. That the replies are the machine's
-- is what the scripts' own statements say.
use Rattle.std.specs.Prelude.{◌≡◌, ℕ, List, [], ◌∷◌, ◌++◌, false, Ok, codes}
use Rattle.pps_types.specs.declared.event.Event.{Event}
use Rattle.pps_types.specs.Outcome.{Reply}
use Rattle.pps_types.specs.Machine.{start}
use Rattle.pps_types.specs.declared.outcome.Item.TheVariants.{Pulse, ReadDone}
use Rattle.pps_types.specs.Runs.{Answered, replies_to, queued_in}
use Rattle.pps_types.specs.Privacy.{Agree, is_quiet}
use Rattle.worked_rows.specs.Scripts.PrivateTraffic.{events as both_events, answers as both_answers}
use Rattle.worked_rows.specs.Scripts.PrivateTrafficWithoutTheOther.{events as first_events, answers as first_answers}
use Rattle.worked_rows.specs.Scripts.PrivateTrafficOtherWay.{events as second_events, answers as second_answers}
use Rattle.worked_rows.specs.Scripts.BacklogBetweenClients.{events as backlog_events, answers as backlog_answers}
use Rattle.worked_rows.specs.Scripts.PrivateTrafficBesideAPlainObject.{events as beside_events, answers as beside_answers}
use Rattle.worked_rows.specs.Scripts.APlainObjectAlone.{events as alone_events, answers as alone_answers}

-- each event with its reply
abbrev pub answered : List Event → List Reply → List Answered
answered [] replies = []
answered (e ∷ es) [] = []
answered (e ∷ es) (r ∷ rs) = record { event = e; reply = r } ∷ answered es rs

-- the run with all traffic, and those without the second client's own and without the first client's own
abbrev pub both : List Answered
both = answered both_events both_answers

abbrev pub first_alone : List Answered
first_alone = answered first_events first_answers

abbrev pub second_alone : List Answered
second_alone = answered second_events second_answers

-- they agree for the connection, and it is given the same replies
pub record NoticesNothing (conn : ℕ) (first second : List Answered) : Type 0 where
  pub agree : Agree conn (start 1 256) first second
  pub replies : replies_to conn first ≡ replies_to conn second

abbrev pub FirstNoticesNothing : Type 0
FirstNoticesNothing = NoticesNothing 2 both first_alone

abbrev pub SecondNoticesNothing : Type 0
SecondNoticesNothing = NoticesNothing 3 both second_alone

-- a run in which a client waits on a plain object while others talk, and that without what these say
abbrev pub beside : List Answered
beside = answered beside_events beside_answers

abbrev pub waiting_alone : List Answered
waiting_alone = answered alone_events alone_answers

-- nor by its pulse and its late reply, which come in the same order
pub record WaiterNoticesNothing : Type 0 where
  pub notices : NoticesNothing 2 beside waiting_alone
  pub queued : queued_in 2 (start 1 256) beside ≡ queued_in 2 (start 1 256) waiting_alone
  pub told : queued_in 2 (start 1 256) beside ≡ Pulse 7 9 ∷ ReadDone 5 (Ok (codes "@p" ++ 10 ∷ codes "a::1" ++ 10 ∷ [])) ∷ []

abbrev pub BacklogIsNoticed : Type 0
BacklogIsNoticed = is_quiet 2 (start 1 256) (answered backlog_events backlog_answers) ≡ false
