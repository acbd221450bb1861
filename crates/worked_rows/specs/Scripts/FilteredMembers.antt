-- A member none of whose attributes match is still named. What a filter hides does not count against the limit.
-- Made by tools/script_theorems from tests/cases/rows/filtered_members.script.
use Rattle.std.specs.Prelude.{◌≡◌, List, [], ◌∷◌, true, false, Ok, codes}
use Rattle.pps_types.specs.declared.event.Event.{Event}
use Rattle.pps_types.specs.declared.event.Request.TheVariants.{Attach, Open as OpenRequest, Read, Write}
use Rattle.pps_types.specs.declared.outcome.Outcome.TheVariants.{Done, Opened as OpenedHandle, Data, Wrote}
use Rattle.pps_types.specs.Outcome.{Reply}
use Rattle.pps_types.specs.Machine.{start}
use Rattle.pps_types.specs.Runs.{replies}
use Rattle.worked_rows.specs.Scripts.Words.{◌asks◌}

abbrev pub events : List Event
events =
    1 asks Attach
    ∷ 2 asks Attach
    ∷ 1 asks OpenRequest (record { r = true; w = true; c = true; t = false }) (codes "/b")
    ∷ 1 asks Write 1 (codes "x::1\ny::1\n")
    ∷ 1 asks OpenRequest (record { r = true; w = true; c = true; t = false }) (codes "/a")
    ∷ 1 asks Write 2 (codes "y::1\n")
    ∷ 2 asks OpenRequest (record { r = true; w = false; c = false; t = false }) (codes "/.all?f=x")
    ∷ 2 asks Read 3 99
    ∷ 2 asks OpenRequest (record { r = true; w = false; c = false; t = false }) (codes "/b?delta,f=x,limit=1")
    ∷ 2 asks Read 4 99
    ∷ 1 asks Write 1 (codes "y::2\n")
    ∷ 1 asks Write 1 (codes "x::2\n")
    ∷ 1 asks Write 1 (codes "y::3\n")
    ∷ 2 asks Read 4 99
    ∷ []

abbrev pub answers : List Reply
answers =
    Ok Done
    ∷ Ok Done
    ∷ Ok (OpenedHandle 1)
    ∷ Ok (Wrote 10)
    ∷ Ok (OpenedHandle 2)
    ∷ Ok (Wrote 5)
    ∷ Ok (OpenedHandle 3)
    ∷ Ok (Data (codes "@a\n@b\nx::1\n"))
    ∷ Ok (OpenedHandle 4)
    ∷ Ok (Data (codes "@b\nx::1\n"))
    ∷ Ok (Wrote 5)
    ∷ Ok (Wrote 5)
    ∷ Ok (Wrote 5)
    ∷ Ok (Data (codes "@b\nx::2\n"))
    ∷ []

-- the machine answers the events so
abbrev pub FilteredMembers : Type 0
FilteredMembers = replies (start 1 256) events ≡ answers
