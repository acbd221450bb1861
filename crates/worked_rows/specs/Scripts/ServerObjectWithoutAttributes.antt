-- A server object has none of the attributes of the object that it replaces, and its messages are none. When the server
-- closes, the object is gone.
-- Made by tools/script_theorems from tests/cases/rows/server_object_without_attributes.script.
use Rattle.std.specs.Prelude.{◌≡◌, List, [], ◌∷◌, true, false, Ok, Err, codes}
use Rattle.pps_types.specs.declared.event.Event.{Event}
use Rattle.pps_types.specs.declared.event.Request.TheVariants.{Attach, Open as OpenRequest, Read, Write, Close}
use Rattle.pps_types.specs.declared.outcome.Outcome.TheVariants.{Done, Opened as OpenedHandle, Data, Wrote}
use Rattle.pps_types.specs.declared.refusal.Refusal.TheVariants.{NotFound}
use Rattle.pps_types.specs.Outcome.{Reply}
use Rattle.pps_types.specs.Machine.{start}
use Rattle.pps_types.specs.Runs.{replies}
use Rattle.worked_rows.specs.Scripts.Words.{◌asks◌}

abbrev pub events : List Event
events =
    1 asks Attach
    ∷ 2 asks Attach
    ∷ 1 asks OpenRequest (record { r = true; w = true; c = true; t = false }) (codes "/s")
    ∷ 1 asks Write 1 (codes "a::1\n")
    ∷ 1 asks Close 1
    ∷ 1 asks OpenRequest (record { r = true; w = true; c = false; t = false }) (codes "/s?server")
    ∷ 2 asks OpenRequest (record { r = true; w = false; c = false; t = false }) (codes "/.all")
    ∷ 2 asks Read 3 99
    ∷ 1 asks Write 2 (codes "b::1\n")
    ∷ 2 asks Read 3 99
    ∷ 1 asks Close 2
    ∷ 2 asks Read 3 99
    ∷ 2 asks OpenRequest (record { r = true; w = false; c = false; t = false }) (codes "/s")
    ∷ []

abbrev pub answers : List Reply
answers =
    Ok Done
    ∷ Ok Done
    ∷ Ok (OpenedHandle 1)
    ∷ Ok (Wrote 5)
    ∷ Ok Done
    ∷ Ok (OpenedHandle 2)
    ∷ Ok (OpenedHandle 3)
    ∷ Ok (Data (codes "@s\n"))
    ∷ Ok (Wrote 5)
    ∷ Ok (Data [])
    ∷ Ok Done
    ∷ Ok (Data [])
    ∷ Err NotFound
    ∷ []

-- the machine answers the events so
abbrev pub ServerObjectWithoutAttributes : Type 0
ServerObjectWithoutAttributes = replies (start 1 256) events ≡ answers
