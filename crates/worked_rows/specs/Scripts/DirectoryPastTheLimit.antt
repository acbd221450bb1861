-- A subscriber to a directory that is past its limit is given a line that says so, and then all members there are.
-- Made by tools/script_theorems from tests/cases/rows/directory_past_the_limit.script.
use Rattle.std.specs.Prelude.{◌≡◌, List, [], ◌∷◌, true, false, Ok, codes}
use Rattle.pps_types.specs.declared.event.Event.{Event}
use Rattle.pps_types.specs.declared.event.Request.TheVariants.{Attach, Open as OpenRequest, Read, Write, Unlink}
use Rattle.pps_types.specs.declared.outcome.Outcome.TheVariants.{Done, Opened as OpenedHandle, Data, Wrote}
use Rattle.pps_types.specs.Outcome.{Reply}
use Rattle.pps_types.specs.Machine.{start}
use Rattle.pps_types.specs.Runs.{replies}
use Rattle.worked_rows.specs.Scripts.Words.{◌asks◌}

abbrev pub events : List Event
events =
    1 asks Attach
    ∷ 2 asks Attach
    ∷ 1 asks OpenRequest (record { r = true; w = true; c = true; t = false }) (codes "/a")
    ∷ 2 asks OpenRequest (record { r = true; w = false; c = false; t = false }) (codes "/.all?delta,limit=1")
    ∷ 2 asks Read 2 99
    ∷ 2 asks OpenRequest (record { r = true; w = false; c = false; t = false }) (codes "/.all?deltadir,limit=1")
    ∷ 2 asks Read 3 99
    ∷ 1 asks OpenRequest (record { r = true; w = true; c = true; t = false }) (codes "/b")
    ∷ 1 asks Write 1 (codes "x::1\n")
    ∷ 2 asks Read 2 99
    ∷ 2 asks Read 3 99
    ∷ 1 asks Unlink (codes "/a")
    ∷ 1 asks Unlink (codes "/b")
    ∷ 2 asks Read 2 99
    ∷ 2 asks Read 3 99
    ∷ []

abbrev pub answers : List Reply
answers =
    Ok Done
    ∷ Ok Done
    ∷ Ok (OpenedHandle 1)
    ∷ Ok (OpenedHandle 2)
    ∷ Ok (Data (codes "@a\n"))
    ∷ Ok (OpenedHandle 3)
    ∷ Ok (Data (codes "@a\n"))
    ∷ Ok (OpenedHandle 4)
    ∷ Ok (Wrote 5)
    ∷ Ok (Data (codes "!@.all\n@a\nx::1\n@b\n"))
    ∷ Ok (Data (codes "+@b\n"))
    ∷ Ok Done
    ∷ Ok Done
    ∷ Ok (Data (codes "!@.all\n"))
    ∷ Ok (Data (codes "!@.all\n"))
    ∷ []

-- the machine answers the events so
abbrev pub DirectoryPastTheLimit : Type 0
DirectoryPastTheLimit = replies (start 1 256) events ≡ answers
