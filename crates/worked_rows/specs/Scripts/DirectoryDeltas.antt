-- A delta subscriber to a directory is told what happens to the objects directly in it, and nothing of its
-- subdirectories.
-- Made by tools/script_theorems from tests/cases/rows/directory_deltas.script.
use Rattle.std.specs.Prelude.{◌≡◌, List, [], ◌∷◌, true, false, Ok, codes}
use Rattle.pps_types.specs.declared.event.Event.{Event}
use Rattle.pps_types.specs.declared.event.Request.TheVariants.{Attach, Open as OpenRequest, Read, Write, Unlink, Mkdir}
use Rattle.pps_types.specs.declared.outcome.Outcome.TheVariants.{Done, Opened as OpenedHandle, Data, Wrote}
use Rattle.pps_types.specs.Outcome.{Reply}
use Rattle.pps_types.specs.Machine.{start}
use Rattle.pps_types.specs.Runs.{replies}
use Rattle.worked_rows.specs.Scripts.Words.{◌asks◌}

abbrev pub events : List Event
events =
    1 asks Attach
    ∷ 2 asks Attach
    ∷ 1 asks Mkdir (codes "/d")
    ∷ 2 asks OpenRequest (record { r = true; w = false; c = false; t = false }) (codes "/d/.all?delta")
    ∷ 2 asks Read 1 4096
    ∷ 1 asks OpenRequest (record { r = true; w = true; c = true; t = false }) (codes "/d/a")
    ∷ 1 asks Write 2 (codes "a1::x\n")
    ∷ 1 asks OpenRequest (record { r = false; w = true; c = false; t = true }) (codes "/d/a")
    ∷ 1 asks Unlink (codes "/d/a")
    ∷ 1 asks Mkdir (codes "/d/e")
    ∷ 1 asks OpenRequest (record { r = true; w = true; c = true; t = false }) (codes "/d/e/z")
    ∷ 2 asks Read 1 4096
    ∷ []

abbrev pub answers : List Reply
answers =
    Ok Done
    ∷ Ok Done
    ∷ Ok Done
    ∷ Ok (OpenedHandle 1)
    ∷ Ok (Data [])
    ∷ Ok (OpenedHandle 2)
    ∷ Ok (Wrote 6)
    ∷ Ok (OpenedHandle 3)
    ∷ Ok Done
    ∷ Ok Done
    ∷ Ok (OpenedHandle 4)
    ∷ Ok (Data (codes "+@a\n@a\na1::x\n#@a\n-@a\n"))
    ∷ []

-- the machine answers the events so
abbrev pub DirectoryDeltas : Type 0
DirectoryDeltas = replies (start 1 256) events ≡ answers
