-- A server object is its name alone to a subscriber to its directory, and has one server.
-- Made by tools/script_theorems from tests/cases/rows/server_in_a_directory.script.
use Rattle.std.specs.Prelude.{◌≡◌, List, [], ◌∷◌, true, false, Ok, Err, codes}
use Rattle.pps_types.specs.declared.event.Event.{Event}
use Rattle.pps_types.specs.declared.event.Request.TheVariants.{Attach, Open as OpenRequest, Read, Mkdir}
use Rattle.pps_types.specs.declared.outcome.Outcome.TheVariants.{Done, Opened as OpenedHandle, Data}
use Rattle.pps_types.specs.declared.refusal.Refusal.TheVariants.{Busy}
use Rattle.pps_types.specs.Outcome.{Reply}
use Rattle.pps_types.specs.Machine.{start}
use Rattle.pps_types.specs.Runs.{replies}
use Rattle.worked_rows.specs.Scripts.Words.{◌asks◌}

abbrev pub events : List Event
events =
    1 asks Attach
    ∷ 2 asks Attach
    ∷ 1 asks Mkdir (codes "/d")
    ∷ 1 asks OpenRequest (record { r = true; w = true; c = true; t = false }) (codes "/d/s?server")
    ∷ 2 asks OpenRequest (record { r = true; w = false; c = false; t = false }) (codes "/d/.all")
    ∷ 2 asks Read 2 99
    ∷ 2 asks OpenRequest (record { r = true; w = true; c = false; t = false }) (codes "/d/s?server")
    ∷ []

abbrev pub answers : List Reply
answers =
    Ok Done
    ∷ Ok Done
    ∷ Ok Done
    ∷ Ok (OpenedHandle 1)
    ∷ Ok (OpenedHandle 2)
    ∷ Ok (Data (codes "@s\n"))
    ∷ Err Busy
    ∷ []

-- the machine answers the events so
abbrev pub ServerInADirectory : Type 0
ServerInADirectory = replies (start 1 256) events ≡ answers
