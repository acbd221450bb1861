-- A server is told of its clients and of what they write; its answers reach those that they are meant for. When it
-- closes, its object is gone.
-- Made by tools/script_theorems from tests/cases/rows/server_and_clients.script.
use Rattle.std.specs.Prelude.{◌≡◌, List, [], ◌∷◌, true, false, Ok, Err, codes}
use Rattle.pps_types.specs.declared.event.Event.{Event}
use Rattle.pps_types.specs.declared.event.Request.TheVariants.{Attach, Open as OpenRequest, Read, Write, Close}
use Rattle.pps_types.specs.declared.outcome.Outcome.TheVariants.{Done, Opened as OpenedHandle, Data, Wrote}
use Rattle.pps_types.specs.declared.refusal.Refusal.TheVariants.{Gone, NoClient}
use Rattle.pps_types.specs.Outcome.{Reply}
use Rattle.pps_types.specs.Machine.{start}
use Rattle.pps_types.specs.Runs.{replies}
use Rattle.worked_rows.specs.Scripts.Words.{◌asks◌}

abbrev pub events : List Event
events =
    1 asks Attach
    ∷ 2 asks Attach
    ∷ 3 asks Attach
    ∷ 1 asks OpenRequest (record { r = true; w = true; c = true; t = false }) (codes "/s?server")
    ∷ 2 asks OpenRequest (record { r = true; w = true; c = false; t = false }) (codes "/s")
    ∷ 3 asks OpenRequest (record { r = true; w = true; c = false; t = false }) (codes "/s")
    ∷ 1 asks Read 1 99
    ∷ 2 asks Write 2 (codes "q::1\n")
    ∷ 1 asks Read 1 99
    ∷ 1 asks Write 1 (codes "@s.2\nr::2\n")
    ∷ 2 asks Read 2 99
    ∷ 3 asks Read 3 99
    ∷ 1 asks Write 1 (codes "@s.9\nr::2\n")
    ∷ 2 asks Close 2
    ∷ 1 asks Read 1 99
    ∷ 1 asks Close 1
    ∷ 3 asks Read 3 99
    ∷ 3 asks Read 3 99
    ∷ []

abbrev pub answers : List Reply
answers =
    Ok Done
    ∷ Ok Done
    ∷ Ok Done
    ∷ Ok (OpenedHandle 1)
    ∷ Ok (OpenedHandle 2)
    ∷ Ok (OpenedHandle 3)
    ∷ Ok (Data (codes "+@s.2\n+@s.3\n"))
    ∷ Ok (Wrote 5)
    ∷ Ok (Data (codes "@s.2\nq::1\n"))
    ∷ Ok (Wrote 10)
    ∷ Ok (Data (codes "@s\nr::2\n"))
    ∷ Ok (Data [])
    ∷ Err (NoClient 9)
    ∷ Ok Done
    ∷ Ok (Data (codes "-@s.2\n"))
    ∷ Ok Done
    ∷ Ok (Data (codes "-@s\n"))
    ∷ Err Gone
    ∷ []

-- the machine answers the events so
abbrev pub ServerAndClients : Type 0
ServerAndClients = replies (start 1 256) events ≡ answers
