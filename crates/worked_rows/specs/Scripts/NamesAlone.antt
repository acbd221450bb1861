-- A subscriber to names is given the names of a directory's objects, in byte order, and then which come and go.
-- Made by tools/script_theorems from tests/cases/rows/names_alone.script.
use Rattle.std.specs.Prelude.{◌≡◌, List, [], ◌∷◌, true, false, Ok, codes}
use Rattle.pps_types.specs.declared.event.Event.{Event}
use Rattle.pps_types.specs.declared.event.Request.TheVariants.{Attach, Open as OpenRequest, Read, Unlink, Mkdir}
use Rattle.pps_types.specs.declared.outcome.Outcome.TheVariants.{Done, Opened as OpenedHandle, Data}
use Rattle.pps_types.specs.Outcome.{Reply}
use Rattle.pps_types.specs.Machine.{start}
use Rattle.pps_types.specs.Runs.{replies}
use Rattle.worked_rows.specs.Scripts.Words.{◌asks◌}

abbrev pub events : List Event
events =
    1 asks Attach
    ∷ 2 asks Attach
    ∷ 1 asks Mkdir (codes "/d")
    ∷ 1 asks OpenRequest (record { r = true; w = true; c = true; t = false }) (codes "/d/b")
    ∷ 1 asks OpenRequest (record { r = true; w = true; c = true; t = false }) (codes "/d/a")
    ∷ 2 asks OpenRequest (record { r = true; w = false; c = false; t = false }) (codes "/d/.all?deltadir")
    ∷ 2 asks Read 3 99
    ∷ 1 asks OpenRequest (record { r = true; w = true; c = true; t = false }) (codes "/d/c")
    ∷ 1 asks Unlink (codes "/d/a")
    ∷ 2 asks Read 3 99
    ∷ []

abbrev pub answers : List Reply
answers =
    Ok Done
    ∷ Ok Done
    ∷ Ok Done
    ∷ Ok (OpenedHandle 1)
    ∷ Ok (OpenedHandle 2)
    ∷ Ok (OpenedHandle 3)
    ∷ Ok (Data (codes "@a\n@b\n"))
    ∷ Ok (OpenedHandle 4)
    ∷ Ok Done
    ∷ Ok (Data (codes "+@c\n-@a\n"))
    ∷ []

-- the machine answers the events so
abbrev pub NamesAlone : Type 0
NamesAlone = replies (start 1 256) events ≡ answers
