-- Directories are made, listed in the byte order of names, refused where the way or the name is wrong, and removed only
-- where they are empty.
-- Made by tools/script_theorems from tests/cases/rows/directories.script.
use Rattle.std.specs.Prelude.{◌≡◌, List, [], ◌∷◌, true, false, Ok, Err, codes}
use Rattle.pps_types.specs.declared.event.Event.{Event}
use Rattle.pps_types.specs.declared.event.Request.TheVariants.{Attach, Open as OpenRequest, Unlink, Mkdir, List as ListRequest}
use Rattle.pps_types.specs.declared.outcome.Outcome.TheVariants.{Done, Opened as OpenedHandle, Data}
use Rattle.pps_types.specs.declared.refusal.Refusal.TheVariants.{NotFound, Exists, NotDirectory, IsDirectory, NotEmpty, Busy}
use Rattle.pps_types.specs.Outcome.{Reply}
use Rattle.pps_types.specs.Machine.{start}
use Rattle.pps_types.specs.Runs.{replies}
use Rattle.worked_rows.specs.Scripts.Words.{◌asks◌}

abbrev pub events : List Event
events =
    1 asks Attach
    ∷ 1 asks Mkdir (codes "/d")
    ∷ 1 asks OpenRequest (record { r = true; w = true; c = true; t = false }) (codes "/d/b")
    ∷ 1 asks Mkdir (codes "/d/a")
    ∷ 1 asks ListRequest (codes "/d")
    ∷ 1 asks ListRequest (codes "/")
    ∷ 1 asks Mkdir (codes "/d")
    ∷ 1 asks Mkdir (codes "/x/y")
    ∷ 1 asks Unlink (codes "/d")
    ∷ 1 asks Unlink (codes "/")
    ∷ 1 asks OpenRequest (record { r = true; w = false; c = false; t = false }) (codes "/d")
    ∷ 1 asks OpenRequest (record { r = true; w = false; c = false; t = false }) (codes "/d/b/.all")
    ∷ []

abbrev pub answers : List Reply
answers =
    Ok Done
    ∷ Ok Done
    ∷ Ok (OpenedHandle 1)
    ∷ Ok Done
    ∷ Ok (Data (codes "a/\nb\n"))
    ∷ Ok (Data (codes "d/\n"))
    ∷ Err Exists
    ∷ Err NotFound
    ∷ Err NotEmpty
    ∷ Err Busy
    ∷ Err IsDirectory
    ∷ Err NotDirectory
    ∷ []

-- the machine answers the events so
abbrev pub Directories : Type 0
Directories = replies (start 1 256) events ≡ answers
