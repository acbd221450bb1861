-- The same without the other client's and the server's own traffic: pulses and late replies are as before.
-- Made by tools/script_theorems from tests/cases/rows/a_plain_object_alone.script.
use Rattle.std.specs.Prelude.{◌≡◌, List, [], ◌∷◌, true, false, Ok, codes}
use Rattle.pps_types.specs.declared.event.Event.{Event}
use Rattle.pps_types.specs.declared.event.Request.TheVariants.{Attach, Open as OpenRequest, Read, Write, Notify, Receive}
use Rattle.pps_types.specs.declared.event.Action.TheVariants.{Pollarm}
use Rattle.pps_types.specs.declared.outcome.Outcome.TheVariants.{Done, Opened as OpenedHandle, Data, Wrote, Parked, Input, Item as ItemOutcome, Empty}
use Rattle.pps_types.specs.declared.outcome.Item.TheVariants.{Pulse, ReadDone}
use Rattle.pps_types.specs.Outcome.{Reply}
use Rattle.pps_types.specs.Machine.{start}
use Rattle.pps_types.specs.Runs.{replies}
use Rattle.worked_rows.specs.Scripts.Words.{◌asks◌}

abbrev pub events : List Event
events =
    1 asks Attach
    ∷ 2 asks Attach
    ∷ 3 asks Attach
    ∷ 4 asks Attach
    ∷ 1 asks OpenRequest (record { r = true; w = true; c = true; t = false }) (codes "/s?server")
    ∷ 2 asks OpenRequest (record { r = true; w = true; c = false; t = false }) (codes "/s")
    ∷ 3 asks OpenRequest (record { r = true; w = true; c = false; t = false }) (codes "/s")
    ∷ 4 asks OpenRequest (record { r = false; w = true; c = true; t = false }) (codes "/p")
    ∷ 2 asks OpenRequest (record { r = true; w = false; c = false; t = false }) (codes "/p?delta,wait")
    ∷ 2 asks Read 5 4096
    ∷ 2 asks Notify 5 Pollarm 7 9
    ∷ 2 asks Read 5 4096
    ∷ 4 asks Write 4 (codes "a::1\n")
    ∷ 2 asks Receive
    ∷ 2 asks Receive
    ∷ 2 asks Receive
    ∷ 2 asks Read 2 4096
    ∷ []

abbrev pub answers : List Reply
answers =
    Ok Done
    ∷ Ok Done
    ∷ Ok Done
    ∷ Ok Done
    ∷ Ok (OpenedHandle 1)
    ∷ Ok (OpenedHandle 2)
    ∷ Ok (OpenedHandle 3)
    ∷ Ok (OpenedHandle 4)
    ∷ Ok (OpenedHandle 5)
    ∷ Ok (Data (codes "@p\n"))
    ∷ Ok (Input false)
    ∷ Ok Parked
    ∷ Ok (Wrote 5)
    ∷ Ok (ItemOutcome (Pulse 7 9))
    ∷ Ok (ItemOutcome (ReadDone 5 (Ok (codes "@p\na::1\n"))))
    ∷ Ok Empty
    ∷ Ok (Data [])
    ∷ []

-- the machine answers the events so
abbrev pub APlainObjectAlone : Type 0
APlainObjectAlone = replies (start 1 256) events ≡ answers
