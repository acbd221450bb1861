-- Subscribers at different places of one object each get what they are owed; one that is past its limit gets
-- everything, marked.
-- Made by tools/script_theorems from tests/cases/rows/exact_cut.script.
use Rattle.std.specs.Prelude.{◌≡◌, List, [], ◌∷◌, true, false, Ok, codes}
use Rattle.pps_types.specs.declared.event.Event.{Event}
use Rattle.pps_types.specs.declared.event.Request.TheVariants.{Attach, Open as OpenRequest, Read, Write, Close}
use Rattle.pps_types.specs.declared.outcome.Outcome.TheVariants.{Done, Opened as OpenedHandle, Data, Wrote}
use Rattle.pps_types.specs.Outcome.{Reply}
use Rattle.pps_types.specs.Machine.{start}
use Rattle.pps_types.specs.Runs.{replies}
use Rattle.worked_rows.specs.Scripts.Words.{◌asks◌}

abbrev pub events : List Event
events =
    1 asks Attach
    ∷ 2 asks Attach
    ∷ 3 asks Attach
    ∷ 4 asks Attach
    ∷ 5 asks Attach
    ∷ 1 asks OpenRequest (record { r = true; w = true; c = true; t = false }) (codes "/gps")
    ∷ 2 asks OpenRequest (record { r = true; w = false; c = false; t = false }) (codes "/gps?delta")
    ∷ 3 asks OpenRequest (record { r = true; w = false; c = false; t = false }) (codes "/gps?delta")
    ∷ 4 asks OpenRequest (record { r = true; w = false; c = false; t = false }) (codes "/gps?delta,limit=1")
    ∷ 5 asks OpenRequest (record { r = true; w = false; c = false; t = false }) (codes "/.all?delta")
    ∷ 2 asks Read 2 99
    ∷ 3 asks Read 3 99
    ∷ 4 asks Read 4 99
    ∷ 5 asks Read 5 99
    ∷ 1 asks Write 1 (codes "a::1\n")
    ∷ 1 asks Write 1 (codes "a::2\n")
    ∷ 1 asks Write 1 (codes "a::3\n")
    ∷ 2 asks Read 2 99
    ∷ 3 asks Read 3 10
    ∷ 3 asks Close 3
    ∷ 4 asks Read 4 99
    ∷ 5 asks Close 5
    ∷ []

abbrev pub answers : List Reply
answers =
    Ok Done
    ∷ Ok Done
    ∷ Ok Done
    ∷ Ok Done
    ∷ Ok Done
    ∷ Ok (OpenedHandle 1)
    ∷ Ok (OpenedHandle 2)
    ∷ Ok (OpenedHandle 3)
    ∷ Ok (OpenedHandle 4)
    ∷ Ok (OpenedHandle 5)
    ∷ Ok (Data (codes "@gps\n"))
    ∷ Ok (Data (codes "@gps\n"))
    ∷ Ok (Data (codes "@gps\n"))
    ∷ Ok (Data (codes "@gps\n"))
    ∷ Ok (Wrote 5)
    ∷ Ok (Wrote 5)
    ∷ Ok (Wrote 5)
    ∷ Ok (Data (codes "@gps\na::1\n@gps\na::2\n@gps\na::3\n"))
    ∷ Ok (Data (codes "@gps\na::1\n"))
    ∷ Ok Done
    ∷ Ok (Data (codes "!@gps\na::3\n"))
    ∷ Ok Done
    ∷ []

-- the machine answers the events so
abbrev pub ExactCut : Type 0
ExactCut = replies (start 1 256) events ≡ answers
