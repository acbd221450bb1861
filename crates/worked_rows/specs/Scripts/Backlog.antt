-- A client's write is refused where the server is owed as many of its messages as the server's limit; another client
-- still gets through. A server object cannot be unlinked.
-- Made by tools/script_theorems from tests/cases/rows/backlog.script.
use Rattle.std.specs.Prelude.{◌≡◌, List, [], ◌∷◌, true, false, Ok, Err, codes}
use Rattle.pps_types.specs.declared.event.Event.{Event}
use Rattle.pps_types.specs.declared.event.Request.TheVariants.{Attach, Open as OpenRequest, Write, Unlink}
use Rattle.pps_types.specs.declared.outcome.Outcome.TheVariants.{Done, Opened as OpenedHandle, Wrote}
use Rattle.pps_types.specs.declared.refusal.Refusal.TheVariants.{Busy, Backlogged}
use Rattle.pps_types.specs.Outcome.{Reply}
use Rattle.pps_types.specs.Machine.{start}
use Rattle.pps_types.specs.Runs.{replies}
use Rattle.worked_rows.specs.Scripts.Words.{◌asks◌}

abbrev pub events : List Event
events =
    1 asks Attach
    ∷ 2 asks Attach
    ∷ 3 asks Attach
    ∷ 1 asks OpenRequest (record { r = true; w = true; c = true; t = false }) (codes "/s?server,limit=1")
    ∷ 2 asks OpenRequest (record { r = true; w = true; c = false; t = false }) (codes "/s")
    ∷ 2 asks Write 2 (codes "q::1\n")
    ∷ 2 asks Write 2 (codes "q::2\n")
    ∷ 3 asks OpenRequest (record { r = true; w = true; c = false; t = false }) (codes "/s")
    ∷ 3 asks Write 3 (codes "q::3\n")
    ∷ 1 asks Unlink (codes "/s")
    ∷ []

abbrev pub answers : List Reply
answers =
    Ok Done
    ∷ Ok Done
    ∷ Ok Done
    ∷ Ok (OpenedHandle 1)
    ∷ Ok (OpenedHandle 2)
    ∷ Ok (Wrote 5)
    ∷ Err (Backlogged 1)
    ∷ Ok (OpenedHandle 3)
    ∷ Ok (Wrote 5)
    ∷ Err Busy
    ∷ []

-- the machine answers the events so
abbrev pub Backlog : Type 0
Backlog = replies (start 1 256) events ≡ answers
