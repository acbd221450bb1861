-- A read with nothing new waits. The late reply is made from what stands after the event. A first read does not wait,
-- nor does one on a deleted object.
-- Made by tools/script_theorems from tests/cases/rows/waiting.script.
use Rattle.std.specs.Prelude.{◌≡◌, List, [], ◌∷◌, true, false, Ok, Err, codes}
use Rattle.pps_types.specs.declared.event.Event.{Event}
use Rattle.pps_types.specs.declared.event.Request.TheVariants.{Attach, Open as OpenRequest, Read, Write, Unlink, Mkdir, Receive}
use Rattle.pps_types.specs.declared.outcome.Outcome.TheVariants.{Done, Opened as OpenedHandle, Data, Wrote, Parked, Item as ItemOutcome, Empty}
use Rattle.pps_types.specs.declared.outcome.Item.TheVariants.{ReadDone}
use Rattle.pps_types.specs.declared.refusal.Refusal.TheVariants.{Gone}
use Rattle.pps_types.specs.Outcome.{Reply}
use Rattle.pps_types.specs.Machine.{start}
use Rattle.pps_types.specs.Runs.{replies}
use Rattle.worked_rows.specs.Scripts.Words.{◌asks◌}

abbrev pub events : List Event
events =
    1 asks Attach
    ∷ 2 asks Attach
    ∷ 1 asks Mkdir (codes "/d")
    ∷ 2 asks OpenRequest (record { r = true; w = false; c = false; t = false }) (codes "/d/.all?wait")
    ∷ 2 asks Read 1 99
    ∷ 2 asks Read 1 99
    ∷ 1 asks OpenRequest (record { r = true; w = true; c = true; t = false }) (codes "/d/a")
    ∷ 2 asks Receive
    ∷ 2 asks Read 1 99
    ∷ 1 asks Write 2 (codes "x::1\n")
    ∷ 2 asks Receive
    ∷ 2 asks Read 1 99
    ∷ 2 asks OpenRequest (record { r = true; w = false; c = false; t = false }) (codes "/d/a?delta,wait")
    ∷ 2 asks Read 3 99
    ∷ 1 asks Unlink (codes "/d/a")
    ∷ 2 asks Receive
    ∷ 2 asks Receive
    ∷ 2 asks Read 3 99
    ∷ 2 asks Read 3 99
    ∷ []

abbrev pub answers : List Reply
answers =
    Ok Done
    ∷ Ok Done
    ∷ Ok Done
    ∷ Ok (OpenedHandle 1)
    ∷ Ok (Data [])
    ∷ Ok Parked
    ∷ Ok (OpenedHandle 2)
    ∷ Ok (ItemOutcome (ReadDone 1 (Ok (codes "@a\n"))))
    ∷ Ok Parked
    ∷ Ok (Wrote 5)
    ∷ Ok (ItemOutcome (ReadDone 1 (Ok (codes "@a\nx::1\n"))))
    ∷ Ok Parked
    ∷ Ok (OpenedHandle 3)
    ∷ Ok (Data (codes "@a\nx::1\n"))
    ∷ Ok Done
    ∷ Ok (ItemOutcome (ReadDone 1 (Ok [])))
    ∷ Ok Empty
    ∷ Ok (Data (codes "-@a\n"))
    ∷ Err Gone
    ∷ []

-- the machine answers the events so
abbrev pub Waiting : Type 0
Waiting = replies (start 1 256) events ≡ answers
