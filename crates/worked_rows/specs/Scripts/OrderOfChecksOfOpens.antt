-- An open is judged by its letters, its path, its options, how these go together, what stands on the way and what
-- stands at the end, in this order.
-- Made by tools/script_theorems from tests/cases/rows/order_of_checks_of_opens.script.
use Rattle.std.specs.Prelude.{◌≡◌, List, [], ◌∷◌, true, false, Ok, Err, codes}
use Rattle.pps_types.specs.declared.event.Event.{Event}
use Rattle.pps_types.specs.declared.event.Request.TheVariants.{Attach, Open as OpenRequest, Unlink, Mkdir, List as ListRequest}
use Rattle.pps_types.specs.declared.outcome.Outcome.TheVariants.{Done, Opened as OpenedHandle}
use Rattle.pps_types.specs.declared.refusal.Refusal.TheVariants.{BadPath, NotFound, Exists, NotDirectory, IsDirectory, Busy, BadMode}
use Rattle.pps_types.specs.Outcome.{Reply}
use Rattle.pps_types.specs.Machine.{start}
use Rattle.pps_types.specs.Runs.{replies}
use Rattle.worked_rows.specs.Scripts.Words.{◌asks◌}

abbrev pub events : List Event
events =
    1 asks Attach
    ∷ 1 asks OpenRequest (record { r = false; w = false; c = false; t = true }) (codes "/a//b")
    ∷ 1 asks OpenRequest (record { r = false; w = false; c = true; t = false }) (codes "/gps")
    ∷ 1 asks OpenRequest (record { r = true; w = true; c = false; t = false }) (codes "/x/y/.all")
    ∷ 1 asks OpenRequest (record { r = true; w = false; c = true; t = false }) (codes "/.all")
    ∷ 1 asks OpenRequest (record { r = false; w = true; c = true; t = false }) (codes "/s?server")
    ∷ 1 asks OpenRequest (record { r = true; w = false; c = true; t = false }) (codes "/x/s?server")
    ∷ 1 asks OpenRequest (record { r = true; w = true; c = false; t = false }) (codes "/s?server")
    ∷ 1 asks OpenRequest (record { r = true; w = true; c = true; t = false }) (codes "/x/s?server")
    ∷ 1 asks Mkdir (codes "/d")
    ∷ 1 asks OpenRequest (record { r = true; w = true; c = false; t = false }) (codes "/d?server")
    ∷ 1 asks OpenRequest (record { r = true; w = true; c = true; t = false }) (codes "/s?server")
    ∷ 1 asks OpenRequest (record { r = true; w = true; c = false; t = false }) (codes "/s?server")
    ∷ 1 asks OpenRequest (record { r = true; w = false; c = false; t = false }) (codes "/s/.all")
    ∷ 1 asks OpenRequest (record { r = true; w = true; c = true; t = false }) (codes "/s/x")
    ∷ 1 asks OpenRequest (record { r = true; w = true; c = true; t = false }) (codes "/p")
    ∷ 1 asks OpenRequest (record { r = true; w = true; c = false; t = false }) (codes "/p?server")
    ∷ 1 asks OpenRequest (record { r = true; w = false; c = false; t = false }) (codes "/")
    ∷ 1 asks Mkdir (codes "/")
    ∷ 1 asks Mkdir (codes "/s")
    ∷ 1 asks Mkdir (codes "/s/x")
    ∷ 1 asks ListRequest (codes "/s")
    ∷ 1 asks ListRequest (codes "/none")
    ∷ 1 asks ListRequest (codes "d")
    ∷ 1 asks Unlink (codes "/s")
    ∷ 1 asks Unlink (codes "/none")
    ∷ 1 asks Unlink (codes "/p/x")
    ∷ 1 asks Unlink (codes "/p")
    ∷ 1 asks OpenRequest (record { r = true; w = false; c = false; t = false }) (codes "/p")
    ∷ []

abbrev pub answers : List Reply
answers =
    Ok Done
    ∷ Err BadMode
    ∷ Err BadMode
    ∷ Err BadMode
    ∷ Err BadMode
    ∷ Err BadMode
    ∷ Err BadMode
    ∷ Err NotFound
    ∷ Err NotFound
    ∷ Ok Done
    ∷ Err IsDirectory
    ∷ Ok (OpenedHandle 1)
    ∷ Err Busy
    ∷ Err NotDirectory
    ∷ Err NotDirectory
    ∷ Ok (OpenedHandle 2)
    ∷ Err Busy
    ∷ Err IsDirectory
    ∷ Err Exists
    ∷ Err Exists
    ∷ Err NotDirectory
    ∷ Err NotDirectory
    ∷ Err NotFound
    ∷ Err BadPath
    ∷ Err Busy
    ∷ Err NotFound
    ∷ Err NotDirectory
    ∷ Ok Done
    ∷ Err NotFound
    ∷ []

-- the machine answers the events so
abbrev pub OrderOfChecksOfOpens : Type 0
OrderOfChecksOfOpens = replies (start 1 256) events ≡ answers
