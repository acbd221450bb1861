-- A client's messages and its notices reach the server in order. Only messages count against the server's limit, and a
-- write without lines is held up by nothing.
-- Made by tools/script_theorems from tests/cases/rows/messages_of_clients.script.
use Rattle.std.specs.Prelude.{◌≡◌, List, [], ◌∷◌, true, false, Ok, Err, codes}
use Rattle.pps_types.specs.declared.event.Event.{Event}
use Rattle.pps_types.specs.declared.event.Request.TheVariants.{Attach, Detach, Open as OpenRequest, Read, Write}
use Rattle.pps_types.specs.declared.outcome.Outcome.TheVariants.{Done, Opened as OpenedHandle, Data, Wrote}
use Rattle.pps_types.specs.declared.refusal.Refusal.TheVariants.{BadText, Backlogged}
use Rattle.pps_types.specs.Outcome.{Reply}
use Rattle.pps_types.specs.Machine.{start}
use Rattle.pps_types.specs.Runs.{replies}
use Rattle.worked_rows.specs.Scripts.Words.{◌asks◌}

abbrev pub events : List Event
events =
    1 asks Attach
    ∷ 2 asks Attach
    ∷ 3 asks Attach
    ∷ 1 asks OpenRequest (record { r = true; w = true; c = true; t = false }) (codes "/s?server,limit=1")
    ∷ 2 asks OpenRequest (record { r = true; w = true; c = false; t = false }) (codes "/s")
    ∷ 2 asks Write 2 (codes "q::1\n")
    ∷ 2 asks Write 2 (codes "q::2\n")
    ∷ 2 asks Write 2 (codes "\n")
    ∷ 2 asks Write 2 (codes "@s\n")
    ∷ 2 asks Write 2 (codes "@other\n")
    ∷ 3 asks OpenRequest (record { r = true; w = true; c = false; t = false }) (codes "/s")
    ∷ 3 asks Write 3 (codes "q::3\n")
    ∷ 1 asks Read 1 9
    ∷ 1 asks Read 1 99
    ∷ 2 asks Write 2 (codes "q::2\n")
    ∷ 2 asks Detach
    ∷ 1 asks Read 1 99
    ∷ []

abbrev pub answers : List Reply
answers =
    Ok Done
    ∷ Ok Done
    ∷ Ok Done
    ∷ Ok (OpenedHandle 1)
    ∷ Ok (OpenedHandle 2)
    ∷ Ok (Wrote 5)
    ∷ Err (Backlogged 1)
    ∷ Ok (Wrote 1)
    ∷ Ok (Wrote 3)
    ∷ Err (BadText 1)
    ∷ Ok (OpenedHandle 3)
    ∷ Ok (Wrote 5)
    ∷ Ok (Data (codes "+@s.2\n"))
    ∷ Ok (Data (codes "@s.2\nq::1\n+@s.3\n@s.3\nq::3\n"))
    ∷ Ok (Wrote 5)
    ∷ Ok Done
    ∷ Ok (Data (codes "@s.2\nq::2\n-@s.2\n"))
    ∷ []

-- the machine answers the events so
abbrev pub MessagesOfClients : Type 0
MessagesOfClients = replies (start 1 256) events ≡ answers
