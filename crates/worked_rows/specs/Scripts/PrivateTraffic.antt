-- Two clients of a server: what the one and the server write to each other is not seen by the other.
-- Made by tools/script_theorems from tests/cases/rows/private_traffic.script.
use Rattle.std.specs.Prelude.{◌≡◌, List, [], ◌∷◌, true, false, Ok, codes}
use Rattle.pps_types.specs.declared.event.Event.{Event}
use Rattle.pps_types.specs.declared.event.Request.TheVariants.{Attach, Open as OpenRequest, Read, Write}
use Rattle.pps_types.specs.declared.outcome.Outcome.TheVariants.{Done, Opened as OpenedHandle, Data, Wrote}
use Rattle.pps_types.specs.Outcome.{Reply}
use Rattle.pps_types.specs.Machine.{start}
use Rattle.pps_types.specs.Runs.{replies}
use Rattle.worked_rows.specs.Scripts.Words.{◌asks◌}

abbrev pub events : List Event
events =
    1 asks Attach
    ∷ 2 asks Attach
    ∷ 3 asks Attach
    ∷ 1 asks OpenRequest (record { r = true; w = true; c = true; t = false }) (codes "/s?server")
    ∷ 2 asks OpenRequest (record { r = true; w = true; c = false; t = false }) (codes "/s")
    ∷ 3 asks OpenRequest (record { r = true; w = true; c = false; t = false }) (codes "/s")
    ∷ 3 asks Write 3 (codes "p::5\n")
    ∷ 1 asks Read 1 99
    ∷ 1 asks Write 1 (codes "@s.2\nr::2\n")
    ∷ 2 asks Read 2 99
    ∷ 1 asks Write 1 (codes "all::3\n")
    ∷ 3 asks Read 3 99
    ∷ 2 asks Read 2 99
    ∷ []

abbrev pub answers : List Reply
answers =
    Ok Done
    ∷ Ok Done
    ∷ Ok Done
    ∷ Ok (OpenedHandle 1)
    ∷ Ok (OpenedHandle 2)
    ∷ Ok (OpenedHandle 3)
    ∷ Ok (Wrote 5)
    ∷ Ok (Data (codes "+@s.2\n+@s.3\n@s.3\np::5\n"))
    ∷ Ok (Wrote 10)
    ∷ Ok (Data (codes "@s\nr::2\n"))
    ∷ Ok (Wrote 7)
    ∷ Ok (Data (codes "@s\nall::3\n"))
    ∷ Ok (Data (codes "@s\nall::3\n"))
    ∷ []

-- the machine answers the events so
abbrev pub PrivateTraffic : Type 0
PrivateTraffic = replies (start 1 256) events ≡ answers
