-- What follows for a handle that records wake.
use Rattle.std.specs.Prelude.{◌≡◌, ℕ, List, [], ◌∷◌, ◌++◌, Bool, Option, None, Result, Ok, OnOk, Vec}
use Rattle.std.specs.List.{flat_map}
use Rattle.std.specs.Option.{option_map_or}
use Rattle.pps_types.specs.declared.refusal.Refusal.{Refusal}
use Rattle.pps_types.specs.declared.outcome.Item.TheVariants.{Pulse as PulseItem, ReadDone}
use Rattle.pps_types.specs.Reading.{OpenHandle, Member}
use Rattle.pps_types.specs.Rests.{Progress}
use Rattle.pps_types.specs.Plan.{Move, CatchesUp, Advances, Parks, Arms, Queues, ended, late_reply}
use Rattle.pps_types.specs.SettlingReplies.{pulse_and_reply}
use Rattle.sub_reader.specs.declared.opening.Opening.{Opening}
use Rattle.sub_reader.specs.declared.opening.Pulse.{Pulse}
use Rattle.sub_reader.specs.Opened.{opened}
use Rattle.whole_texts.specs.declared.following.Following.{Following}
use Rattle.whole_texts.specs.declared.following.Following.TheVariants.{Fires, CatchesUp as FollowingCatchesUp, Advances as FollowingPasses, Ends}
use Rattle.whole_texts.specs.declared.reply.Reply.{Reply}
use Rattle.whole_texts.specs.Replied.{meant}
use Rattle.whole_texts.specs.Woken.{Waiting, Behind, IsWoken, ShowsWaiting}

-- the moves that it stands for
abbrev pub moves_of : Following → List Move
moves_of (Fires handle conn pulse) = Arms handle None ∷ Queues conn (PulseItem pulse.code pulse.value) ∷ []
moves_of (FollowingCatchesUp handle) = CatchesUp handle ∷ []
moves_of (FollowingPasses handle count) = Advances handle count ∷ []
moves_of (Ends handle conn result) = Parks handle None ∷ Queues conn (ReadDone handle result) ∷ []

-- its pulse, where one waits
abbrev pub fired_by : Opening → Option Pulse → List Move
fired_by o armed = option_map_or (λ p. Arms o.number None ∷ Queues o.connection (PulseItem p.code p.value) ∷ []) armed []

-- the end of the read that waits on it
abbrev pub ended_by : Opening → Result (List ℕ) Refusal → List Move
ended_by o reply = ended (opened 0 [] o) reply

-- its reading on, and the end of the read with this text
abbrev pub given_by : {A : Type 0} → Following → Opening → Vec ℕ A → List Move
given_by reading o text = moves_of reading ++ ended (opened 0 [] o) (Ok text.items)

-- its late reply, and what that leaves of it
abbrev pub replied_by : Opening → Reply → List Move
replied_by o reply = late_reply (opened 0 [] o) (meant reply)

-- ---- what changes have more

-- these moves come to the end of theirs
abbrev pub Adds : {A : Type 0} → Vec Following A → Vec Following A → List Move → Type 0
Adds old new moves = flat_map moves_of new.items ≡ flat_map moves_of old.items ++ moves

-- if it is done, what follows for a handle comes to their end, its target being as this shows it
abbrev pub AddsWhatFollows : {A X : Type 0} → Waiting → Behind → Vec Following A → Vec Following A → Result X Refusal → Type 0
AddsWhatFollows woken told old new result =
    (handle : OpenHandle Progress) (dead : Bool) (members : List Member) → IsWoken woken handle → ShowsWaiting told handle dead members
    → OnOk result (Adds old new (pulse_and_reply handle told.entries dead members))
