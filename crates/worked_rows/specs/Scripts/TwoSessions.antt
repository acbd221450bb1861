-- A publisher and a subscriber in sessions of their own, in the one order that a gate forces: the armed pulse fires at
-- the write.
-- Made by tools/script_theorems from tests/cases/rows/two_sessions.script.
use Rattle.std.specs.Prelude.{◌≡◌, List, [], ◌∷◌, true, false, Ok, codes}
use Rattle.pps_types.specs.declared.event.Event.{Event}
use Rattle.pps_types.specs.declared.event.Request.TheVariants.{Attach, Open as OpenRequest, Read, Write, Notify, Receive}
use Rattle.pps_types.specs.declared.event.Action.TheVariants.{Pollarm}
use Rattle.pps_types.specs.declared.outcome.Outcome.TheVariants.{Done, Opened as OpenedHandle, Data, Wrote, Input, Item as ItemOutcome}
use Rattle.pps_types.specs.declared.outcome.Item.TheVariants.{Pulse}
use Rattle.pps_types.specs.Outcome.{Reply}
use Rattle.pps_types.specs.Machine.{start}
use Rattle.pps_types.specs.Runs.{replies}
use Rattle.worked_rows.specs.Scripts.Words.{◌asks◌}

abbrev pub events : List Event
events =
    1 asks Attach
    ∷ 2 asks Attach
    ∷ 1 asks OpenRequest (record { r = true; w = true; c = true; t = false }) (codes "/gps")
    ∷ 2 asks OpenRequest (record { r = true; w = false; c = false; t = false }) (codes "/gps")
    ∷ 2 asks Read 2 99
    ∷ 2 asks Notify 2 Pollarm 5 77
    ∷ 1 asks Write 1 (codes "speed:n:65\n")
    ∷ 2 asks Receive
    ∷ 2 asks Read 2 99
    ∷ []

abbrev pub answers : List Reply
answers =
    Ok Done
    ∷ Ok Done
    ∷ Ok (OpenedHandle 1)
    ∷ Ok (OpenedHandle 2)
    ∷ Ok (Data (codes "@gps\n"))
    ∷ Ok (Input false)
    ∷ Ok (Wrote 11)
    ∷ Ok (ItemOutcome (Pulse 5 77))
    ∷ Ok (Data (codes "@gps\nspeed:n:65\n"))
    ∷ []

-- the machine answers the events so
abbrev pub TwoSessions : Type 0
TwoSessions = replies (start 1 256) events ≡ answers
