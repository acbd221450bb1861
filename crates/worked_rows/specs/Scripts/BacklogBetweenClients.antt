-- A server's write to all is refused where one client is owed its limit of messages, and then reaches nobody.
-- Made by tools/script_theorems from tests/cases/rows/backlog_between_clients.script.
use Rattle.std.specs.Prelude.{◌≡◌, List, [], ◌∷◌, true, false, Ok, Err, codes}
use Rattle.pps_types.specs.declared.event.Event.{Event}
use Rattle.pps_types.specs.declared.event.Request.TheVariants.{Attach, Open as OpenRequest, Read, Write}
use Rattle.pps_types.specs.declared.outcome.Outcome.TheVariants.{Done, Opened as OpenedHandle, Data, Wrote}
use Rattle.pps_types.specs.declared.refusal.Refusal.TheVariants.{Backlogged}
use Rattle.pps_types.specs.Outcome.{Reply}
use Rattle.pps_types.specs.Machine.{start}
use Rattle.pps_types.specs.Runs.{replies}
use Rattle.worked_rows.specs.Scripts.Words.{◌asks◌}

abbrev pub events : List Event
events =
    1 asks Attach
    ∷ 2 asks Attach
    ∷ 3 asks Attach
    ∷ 1 asks OpenRequest (record { r = true; w = true; c = true; t = false }) (codes "/s?server")
    ∷ 2 asks OpenRequest (record { r = true; w = true; c = false; t = false }) (codes "/s")
    ∷ 3 asks OpenRequest (record { r = true; w = true; c = false; t = false }) (codes "/s?limit=1")
    ∷ 1 asks Read 1 99
    ∷ 1 asks Write 1 (codes "all::1\n")
    ∷ 1 asks Write 1 (codes "all::2\n")
    ∷ 2 asks Read 2 99
    ∷ 2 asks Read 2 99
    ∷ 3 asks Read 3 99
    ∷ []

abbrev pub answers : List Reply
answers =
    Ok Done
    ∷ Ok Done
    ∷ Ok Done
    ∷ Ok (OpenedHandle 1)
    ∷ Ok (OpenedHandle 2)
    ∷ Ok (OpenedHandle 3)
    ∷ Ok (Data (codes "+@s.2\n+@s.3\n"))
    ∷ Ok (Wrote 7)
    ∷ Err (Backlogged 3)
    ∷ Ok (Data (codes "@s\nall::1\n"))
    ∷ Ok (Data [])
    ∷ Ok (Data (codes "@s\nall::1\n"))
    ∷ []

-- the machine answers the events so
abbrev pub BacklogBetweenClients : Type 0
BacklogBetweenClients = replies (start 1 256) events ≡ answers
