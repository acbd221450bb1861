-- A connection that detaches loses its queue and its handles, and starts anew when it attaches again.
-- Made by tools/script_theorems from tests/cases/rows/detach_and_return.script.
use Rattle.std.specs.Prelude.{◌≡◌, List, [], ◌∷◌, true, false, Ok, Err, codes}
use Rattle.pps_types.specs.declared.event.Event.{Event}
use Rattle.pps_types.specs.declared.event.Request.TheVariants.{Attach, Detach, Open as OpenRequest, Read, Write, Notify, Receive}
use Rattle.pps_types.specs.declared.event.Action.TheVariants.{Pollarm}
use Rattle.pps_types.specs.declared.outcome.Outcome.TheVariants.{Done, Opened as OpenedHandle, Data, Wrote, Input, Empty}
use Rattle.pps_types.specs.declared.refusal.Refusal.TheVariants.{NotAttached, BadHandle}
use Rattle.pps_types.specs.Outcome.{Reply}
use Rattle.pps_types.specs.Machine.{start}
use Rattle.pps_types.specs.Runs.{replies}
use Rattle.worked_rows.specs.Scripts.Words.{◌asks◌}

abbrev pub events : List Event
events =
    1 asks Attach
    ∷ 2 asks Attach
    ∷ 1 asks OpenRequest (record { r = true; w = true; c = true; t = false }) (codes "/gps")
    ∷ 2 asks OpenRequest (record { r = true; w = false; c = false; t = false }) (codes "/gps")
    ∷ 2 asks Read 2 99
    ∷ 2 asks Notify 2 Pollarm 1 1
    ∷ 1 asks Write 1 (codes "a::1\n")
    ∷ 2 asks Detach
    ∷ 2 asks Receive
    ∷ 2 asks Attach
    ∷ 2 asks Receive
    ∷ 2 asks Read 2 99
    ∷ 2 asks OpenRequest (record { r = true; w = false; c = false; t = false }) (codes "/gps")
    ∷ []

abbrev pub answers : List Reply
answers =
    Ok Done
    ∷ Ok Done
    ∷ Ok (OpenedHandle 1)
    ∷ Ok (OpenedHandle 2)
    ∷ Ok (Data (codes "@gps\n"))
    ∷ Ok (Input false)
    ∷ Ok (Wrote 5)
    ∷ Ok Done
    ∷ Err NotAttached
    ∷ Ok Done
    ∷ Ok Empty
    ∷ Err BadHandle
    ∷ Ok (OpenedHandle 3)
    ∷ []

-- the machine answers the events so
abbrev pub DetachAndReturn : Type 0
DetachAndReturn = replies (start 1 256) events ≡ answers
