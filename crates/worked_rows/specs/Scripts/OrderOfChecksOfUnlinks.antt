-- A directory that holds something is told before one that is open.
-- Made by tools/script_theorems from tests/cases/rows/order_of_checks_of_unlinks.script.
use Rattle.std.specs.Prelude.{◌≡◌, List, [], ◌∷◌, true, false, Ok, Err, codes}
use Rattle.pps_types.specs.declared.event.Event.{Event}
use Rattle.pps_types.specs.declared.event.Request.TheVariants.{Attach, Open as OpenRequest, Close, Unlink, Mkdir, List as ListRequest}
use Rattle.pps_types.specs.declared.outcome.Outcome.TheVariants.{Done, Opened as OpenedHandle, Data}
use Rattle.pps_types.specs.declared.refusal.Refusal.TheVariants.{NotEmpty, Busy}
use Rattle.pps_types.specs.Outcome.{Reply}
use Rattle.pps_types.specs.Machine.{start}
use Rattle.pps_types.specs.Runs.{replies}
use Rattle.worked_rows.specs.Scripts.Words.{◌asks◌}

abbrev pub events : List Event
events =
    1 asks Attach
    ∷ 1 asks Mkdir (codes "/d")
    ∷ 1 asks Mkdir (codes "/d/e")
    ∷ 1 asks OpenRequest (record { r = true; w = false; c = false; t = false }) (codes "/d/.all?deltadir")
    ∷ 1 asks Unlink (codes "/d")
    ∷ 1 asks Unlink (codes "/d/e")
    ∷ 1 asks Unlink (codes "/d")
    ∷ 1 asks Close 1
    ∷ 1 asks Mkdir (codes "/d/e")
    ∷ 1 asks Unlink (codes "/d")
    ∷ 1 asks Unlink (codes "/d/e")
    ∷ 1 asks Unlink (codes "/d")
    ∷ 1 asks ListRequest (codes "/")
    ∷ []

abbrev pub answers : List Reply
answers =
    Ok Done
    ∷ Ok Done
    ∷ Ok Done
    ∷ Ok (OpenedHandle 1)
    ∷ Err NotEmpty
    ∷ Ok Done
    ∷ Err Busy
    ∷ Ok Done
    ∷ Ok Done
    ∷ Err NotEmpty
    ∷ Ok Done
    ∷ Ok Done
    ∷ Ok (Data [])
    ∷ []

-- the machine answers the events so
abbrev pub OrderOfChecksOfUnlinks : Type 0
OrderOfChecksOfUnlinks = replies (start 1 256) events ≡ answers
