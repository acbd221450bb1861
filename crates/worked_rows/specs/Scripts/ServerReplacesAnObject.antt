-- A server open on a plain object without handles deletes the object and creates the server object in its place.
-- Made by tools/script_theorems from tests/cases/rows/server_replaces_an_object.script.
use Rattle.std.specs.Prelude.{◌≡◌, List, [], ◌∷◌, true, false, Ok, codes}
use Rattle.pps_types.specs.declared.event.Event.{Event}
use Rattle.pps_types.specs.declared.event.Request.TheVariants.{Attach, Open as OpenRequest, Read, Close}
use Rattle.pps_types.specs.declared.outcome.Outcome.TheVariants.{Done, Opened as OpenedHandle, Data}
use Rattle.pps_types.specs.Outcome.{Reply}
use Rattle.pps_types.specs.Machine.{start}
use Rattle.pps_types.specs.Runs.{replies}
use Rattle.worked_rows.specs.Scripts.Words.{◌asks◌}

abbrev pub events : List Event
events =
    1 asks Attach
    ∷ 2 asks Attach
    ∷ 3 asks Attach
    ∷ 1 asks OpenRequest (record { r = true; w = true; c = true; t = false }) (codes "/s")
    ∷ 1 asks Close 1
    ∷ 3 asks OpenRequest (record { r = true; w = false; c = false; t = false }) (codes "/.all?delta")
    ∷ 3 asks Read 2 99
    ∷ 2 asks OpenRequest (record { r = true; w = true; c = false; t = false }) (codes "/s?server")
    ∷ 3 asks Read 2 99
    ∷ []

abbrev pub answers : List Reply
answers =
    Ok Done
    ∷ Ok Done
    ∷ Ok Done
    ∷ Ok (OpenedHandle 1)
    ∷ Ok Done
    ∷ Ok (OpenedHandle 2)
    ∷ Ok (Data (codes "@s\n"))
    ∷ Ok (OpenedHandle 3)
    ∷ Ok (Data (codes "-@s\n+@s\n"))
    ∷ []

-- the machine answers the events so
abbrev pub ServerReplacesAnObject : Type 0
ServerReplacesAnObject = replies (start 1 256) events ≡ answers
