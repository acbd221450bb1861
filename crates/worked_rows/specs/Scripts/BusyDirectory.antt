-- A directory cannot be removed while a handle is open on it, and can when that handle is closed.
-- Made by tools/script_theorems from tests/cases/rows/busy_directory.script.
use Rattle.std.specs.Prelude.{◌≡◌, List, [], ◌∷◌, true, false, Ok, Err, codes}
use Rattle.pps_types.specs.declared.event.Event.{Event}
use Rattle.pps_types.specs.declared.event.Request.TheVariants.{Attach, Open as OpenRequest, Close, Unlink, Mkdir}
use Rattle.pps_types.specs.declared.outcome.Outcome.TheVariants.{Done, Opened as OpenedHandle}
use Rattle.pps_types.specs.declared.refusal.Refusal.TheVariants.{NotFound, Busy}
use Rattle.pps_types.specs.Outcome.{Reply}
use Rattle.pps_types.specs.Machine.{start}
use Rattle.pps_types.specs.Runs.{replies}
use Rattle.worked_rows.specs.Scripts.Words.{◌asks◌}

abbrev pub events : List Event
events =
    1 asks Attach
    ∷ 2 asks Attach
    ∷ 1 asks Mkdir (codes "/d")
    ∷ 2 asks OpenRequest (record { r = true; w = false; c = false; t = false }) (codes "/d/.all")
    ∷ 1 asks Unlink (codes "/d")
    ∷ 2 asks Close 1
    ∷ 1 asks Unlink (codes "/d")
    ∷ 2 asks OpenRequest (record { r = true; w = false; c = false; t = false }) (codes "/d/.all")
    ∷ []

abbrev pub answers : List Reply
answers =
    Ok Done
    ∷ Ok Done
    ∷ Ok Done
    ∷ Ok (OpenedHandle 1)
    ∷ Err Busy
    ∷ Ok Done
    ∷ Ok Done
    ∷ Err NotFound
    ∷ []

-- the machine answers the events so
abbrev pub BusyDirectory : Type 0
BusyDirectory = replies (start 1 256) events ≡ answers
