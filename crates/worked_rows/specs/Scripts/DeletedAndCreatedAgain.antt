-- Handles of a deleted object are given what they are owed, and then that it is gone. An object of the same name is
-- another one.
-- Made by tools/script_theorems from tests/cases/rows/deleted_and_created_again.script.
use Rattle.std.specs.Prelude.{◌≡◌, List, [], ◌∷◌, true, false, Ok, Err, codes}
use Rattle.pps_types.specs.declared.event.Event.{Event}
use Rattle.pps_types.specs.declared.event.Request.TheVariants.{Attach, Open as OpenRequest, Read, Write, Unlink}
use Rattle.pps_types.specs.declared.outcome.Outcome.TheVariants.{Done, Opened as OpenedHandle, Data, Wrote}
use Rattle.pps_types.specs.declared.refusal.Refusal.TheVariants.{Gone}
use Rattle.pps_types.specs.Outcome.{Reply}
use Rattle.pps_types.specs.Machine.{start}
use Rattle.pps_types.specs.Runs.{replies}
use Rattle.worked_rows.specs.Scripts.Words.{◌asks◌}

abbrev pub events : List Event
events =
    1 asks Attach
    ∷ 2 asks Attach
    ∷ 1 asks OpenRequest (record { r = true; w = true; c = true; t = false }) (codes "/gps")
    ∷ 2 asks OpenRequest (record { r = true; w = false; c = false; t = false }) (codes "/gps?delta")
    ∷ 2 asks Read 2 99
    ∷ 1 asks Write 1 (codes "a::1\n")
    ∷ 1 asks Unlink (codes "/gps")
    ∷ 2 asks Read 2 99
    ∷ 2 asks Read 2 99
    ∷ 1 asks Write 1 (codes "a::2\n")
    ∷ 1 asks OpenRequest (record { r = true; w = true; c = true; t = false }) (codes "/gps")
    ∷ 2 asks Read 2 99
    ∷ []

abbrev pub answers : List Reply
answers =
    Ok Done
    ∷ Ok Done
    ∷ Ok (OpenedHandle 1)
    ∷ Ok (OpenedHandle 2)
    ∷ Ok (Data (codes "@gps\n"))
    ∷ Ok (Wrote 5)
    ∷ Ok Done
    ∷ Ok (Data (codes "@gps\na::1\n-@gps\n"))
    ∷ Err Gone
    ∷ Err Gone
    ∷ Ok (OpenedHandle 3)
    ∷ Err Gone
    ∷ []

-- the machine answers the events so
abbrev pub DeletedAndCreatedAgain : Type 0
DeletedAndCreatedAgain = replies (start 1 256) events ≡ answers
