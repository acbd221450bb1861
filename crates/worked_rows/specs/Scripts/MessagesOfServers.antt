-- A server's message goes to the open clients of its own object that are meant, and only these may hold it up. A client
-- that cannot read never does.
-- Made by tools/script_theorems from tests/cases/rows/messages_of_servers.script.
use Rattle.std.specs.Prelude.{◌≡◌, List, [], ◌∷◌, true, false, Ok, Err, codes}
use Rattle.pps_types.specs.declared.event.Event.{Event}
use Rattle.pps_types.specs.declared.event.Request.TheVariants.{Attach, Open as OpenRequest, Read, Write}
use Rattle.pps_types.specs.declared.outcome.Outcome.TheVariants.{Done, Opened as OpenedHandle, Data, Wrote}
use Rattle.pps_types.specs.declared.refusal.Refusal.TheVariants.{BadMode, BadText, Backlogged, NoClient}
use Rattle.pps_types.specs.Outcome.{Reply}
use Rattle.pps_types.specs.Machine.{start}
use Rattle.pps_types.specs.Runs.{replies}
use Rattle.worked_rows.specs.Scripts.Words.{◌asks◌}

abbrev pub events : List Event
events =
    1 asks Attach
    ∷ 2 asks Attach
    ∷ 3 asks Attach
    ∷ 1 asks OpenRequest (record { r = true; w = true; c = true; t = false }) (codes "/s?server")
    ∷ 2 asks OpenRequest (record { r = true; w = true; c = true; t = false }) (codes "/t?server")
    ∷ 3 asks OpenRequest (record { r = true; w = true; c = false; t = false }) (codes "/s?limit=1")
    ∷ 3 asks OpenRequest (record { r = true; w = true; c = false; t = false }) (codes "/t")
    ∷ 3 asks OpenRequest (record { r = false; w = true; c = false; t = false }) (codes "/s?limit=1")
    ∷ 1 asks Read 1 99
    ∷ 1 asks Write 1 (codes "@s.4\nr::1\n")
    ∷ 1 asks Write 1 (codes "@s.5\nr::1\n")
    ∷ 1 asks Write 1 (codes "@s.5\nr::2\n")
    ∷ 1 asks Write 1 (codes "@s.3\nr::3\n")
    ∷ 1 asks Write 1 (codes "r::4\n")
    ∷ 1 asks Write 1 (codes "@s.5\nr::4\n")
    ∷ 1 asks Write 1 (codes "@s\n")
    ∷ 1 asks Write 1 (codes "@s.9\n")
    ∷ 1 asks Write 1 (codes "@other\nr::1\n")
    ∷ 3 asks Read 3 99
    ∷ 1 asks Write 1 (codes "@s\nr::4\n")
    ∷ 3 asks Read 3 99
    ∷ 3 asks Read 5 99
    ∷ 3 asks Read 4 99
    ∷ []

abbrev pub answers : List Reply
answers =
    Ok Done
    ∷ Ok Done
    ∷ Ok Done
    ∷ Ok (OpenedHandle 1)
    ∷ Ok (OpenedHandle 2)
    ∷ Ok (OpenedHandle 3)
    ∷ Ok (OpenedHandle 4)
    ∷ Ok (OpenedHandle 5)
    ∷ Ok (Data (codes "+@s.3\n+@s.5\n"))
    ∷ Err (NoClient 4)
    ∷ Ok (Wrote 10)
    ∷ Ok (Wrote 10)
    ∷ Ok (Wrote 10)
    ∷ Err (Backlogged 3)
    ∷ Ok (Wrote 10)
    ∷ Ok (Wrote 3)
    ∷ Err (NoClient 9)
    ∷ Err (BadText 1)
    ∷ Ok (Data (codes "@s\nr::3\n"))
    ∷ Ok (Wrote 8)
    ∷ Ok (Data (codes "@s\nr::4\n"))
    ∷ Err BadMode
    ∷ Ok (Data [])
    ∷ []

-- the machine answers the events so
abbrev pub MessagesOfServers : Type 0
MessagesOfServers = replies (start 1 256) events ≡ answers
