-- Truncating and deleting an object are told to its subscribers whatever their filters ask; truncating also where
-- nothing was left, and not to subscribers to names.
-- Made by tools/script_theorems from tests/cases/rows/truncated_and_deleted.script.
use Rattle.std.specs.Prelude.{◌≡◌, List, [], ◌∷◌, true, false, Ok, Err, codes}
use Rattle.pps_types.specs.declared.event.Event.{Event}
use Rattle.pps_types.specs.declared.event.Request.TheVariants.{Attach, Open as OpenRequest, Read, Write, Unlink}
use Rattle.pps_types.specs.declared.outcome.Outcome.TheVariants.{Done, Opened as OpenedHandle, Data, Wrote}
use Rattle.pps_types.specs.declared.refusal.Refusal.TheVariants.{Gone}
use Rattle.pps_types.specs.Outcome.{Reply}
use Rattle.pps_types.specs.Machine.{start}
use Rattle.pps_types.specs.Runs.{replies}
use Rattle.worked_rows.specs.Scripts.Words.{◌asks◌}

abbrev pub events : List Event
events =
    1 asks Attach
    ∷ 2 asks Attach
    ∷ 1 asks OpenRequest (record { r = true; w = true; c = true; t = false }) (codes "/gps")
    ∷ 1 asks Write 1 (codes "a::1\n")
    ∷ 2 asks OpenRequest (record { r = true; w = false; c = false; t = false }) (codes "/gps?delta,f=zz")
    ∷ 2 asks Read 2 99
    ∷ 2 asks OpenRequest (record { r = true; w = false; c = false; t = false }) (codes "/gps")
    ∷ 2 asks Read 3 99
    ∷ 2 asks OpenRequest (record { r = true; w = false; c = false; t = false }) (codes "/.all?deltadir")
    ∷ 2 asks Read 4 99
    ∷ 1 asks OpenRequest (record { r = false; w = true; c = false; t = true }) (codes "/gps")
    ∷ 2 asks Read 2 99
    ∷ 2 asks Read 3 99
    ∷ 2 asks Read 4 99
    ∷ 1 asks OpenRequest (record { r = false; w = true; c = false; t = true }) (codes "/gps")
    ∷ 2 asks Read 2 99
    ∷ 1 asks Unlink (codes "/gps")
    ∷ 2 asks Read 2 99
    ∷ 2 asks Read 3 99
    ∷ 2 asks Read 3 99
    ∷ 2 asks Read 4 99
    ∷ 2 asks Read 4 99
    ∷ []

abbrev pub answers : List Reply
answers =
    Ok Done
    ∷ Ok Done
    ∷ Ok (OpenedHandle 1)
    ∷ Ok (Wrote 5)
    ∷ Ok (OpenedHandle 2)
    ∷ Ok (Data (codes "@gps\n"))
    ∷ Ok (OpenedHandle 3)
    ∷ Ok (Data (codes "@gps\na::1\n"))
    ∷ Ok (OpenedHandle 4)
    ∷ Ok (Data (codes "@gps\n"))
    ∷ Ok (OpenedHandle 5)
    ∷ Ok (Data (codes "#@gps\n"))
    ∷ Ok (Data (codes "@gps\n"))
    ∷ Ok (Data [])
    ∷ Ok (OpenedHandle 6)
    ∷ Ok (Data (codes "#@gps\n"))
    ∷ Ok Done
    ∷ Ok (Data (codes "-@gps\n"))
    ∷ Ok (Data (codes "-@gps\n"))
    ∷ Err Gone
    ∷ Ok (Data (codes "-@gps\n"))
    ∷ Ok (Data [])
    ∷ []

-- the machine answers the events so
abbrev pub TruncatedAndDeleted : Type 0
TruncatedAndDeleted = replies (start 1 256) events ≡ answers
