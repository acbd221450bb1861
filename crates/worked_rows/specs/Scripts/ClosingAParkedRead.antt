-- The parked read of a handle that closes is ended before what its close tells others.
-- Made by tools/script_theorems from tests/cases/rows/closing_a_parked_read.script.
use Rattle.std.specs.Prelude.{◌≡◌, List, [], ◌∷◌, true, false, Ok, Err, codes}
use Rattle.pps_types.specs.declared.event.Event.{Event}
use Rattle.pps_types.specs.declared.event.Request.TheVariants.{Attach, Open as OpenRequest, Read, Close, Notify, Receive}
use Rattle.pps_types.specs.declared.event.Action.TheVariants.{Pollarm}
use Rattle.pps_types.specs.declared.outcome.Outcome.TheVariants.{Done, Opened as OpenedHandle, Data, Parked, Input, Item as ItemOutcome, Empty}
use Rattle.pps_types.specs.declared.outcome.Item.TheVariants.{Pulse, ReadDone}
use Rattle.pps_types.specs.declared.refusal.Refusal.TheVariants.{BadHandle}
use Rattle.pps_types.specs.Outcome.{Reply}
use Rattle.pps_types.specs.Machine.{start}
use Rattle.pps_types.specs.Runs.{replies}
use Rattle.worked_rows.specs.Scripts.Words.{◌asks◌}

abbrev pub events : List Event
events =
    1 asks Attach
    ∷ 1 asks OpenRequest (record { r = true; w = true; c = true; t = false }) (codes "/s?server")
    ∷ 1 asks OpenRequest (record { r = true; w = true; c = false; t = false }) (codes "/s?wait")
    ∷ 1 asks Read 1 99
    ∷ 1 asks Notify 1 Pollarm 5 5
    ∷ 1 asks Read 2 99
    ∷ 1 asks Close 2
    ∷ 1 asks Receive
    ∷ 1 asks Receive
    ∷ 1 asks Receive
    ∷ 1 asks Read 1 99
    ∷ []

abbrev pub answers : List Reply
answers =
    Ok Done
    ∷ Ok (OpenedHandle 1)
    ∷ Ok (OpenedHandle 2)
    ∷ Ok (Data (codes "+@s.2\n"))
    ∷ Ok (Input false)
    ∷ Ok Parked
    ∷ Ok Done
    ∷ Ok (ItemOutcome (ReadDone 2 (Err BadHandle)))
    ∷ Ok (ItemOutcome (Pulse 5 5))
    ∷ Ok Empty
    ∷ Ok (Data (codes "-@s.2\n"))
    ∷ []

-- the machine answers the events so
abbrev pub ClosingAParkedRead : Type 0
ClosingAParkedRead = replies (start 1 256) events ≡ answers
