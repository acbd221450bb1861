-- Names are listed in byte order, whether they are of objects or of directories.
-- Made by tools/script_theorems from tests/cases/rows/order_of_names.script.
use Rattle.std.specs.Prelude.{◌≡◌, List, [], ◌∷◌, true, false, Ok, codes}
use Rattle.pps_types.specs.declared.event.Event.{Event}
use Rattle.pps_types.specs.declared.event.Request.TheVariants.{Attach, Open as OpenRequest, Read, Mkdir, List as ListRequest}
use Rattle.pps_types.specs.declared.outcome.Outcome.TheVariants.{Done, Opened as OpenedHandle, Data}
use Rattle.pps_types.specs.Outcome.{Reply}
use Rattle.pps_types.specs.Machine.{start}
use Rattle.pps_types.specs.Runs.{replies}
use Rattle.worked_rows.specs.Scripts.Words.{◌asks◌}

abbrev pub events : List Event
events =
    1 asks Attach
    ∷ 1 asks OpenRequest (record { r = true; w = true; c = true; t = false }) (codes "/a!")
    ∷ 1 asks OpenRequest (record { r = true; w = true; c = true; t = false }) (codes "/b")
    ∷ 1 asks Mkdir (codes "/a")
    ∷ 1 asks OpenRequest (record { r = true; w = true; c = true; t = false }) (codes "/a.b")
    ∷ 1 asks Mkdir (codes "/c")
    ∷ 1 asks ListRequest (codes "/")
    ∷ 1 asks OpenRequest (record { r = true; w = false; c = false; t = false }) (codes "/.all")
    ∷ 1 asks Read 4 99
    ∷ []

abbrev pub answers : List Reply
answers =
    Ok Done
    ∷ Ok (OpenedHandle 1)
    ∷ Ok (OpenedHandle 2)
    ∷ Ok Done
    ∷ Ok (OpenedHandle 3)
    ∷ Ok Done
    ∷ Ok (Data (codes "a/\na!\na.b\nb\nc/\n"))
    ∷ Ok (OpenedHandle 4)
    ∷ Ok (Data (codes "@a!\n@a.b\n@b\n"))
    ∷ []

-- the machine answers the events so
abbrev pub OrderOfNames : Type 0
OrderOfNames = replies (start 1 256) events ≡ answers
