-- A line sees what the lines before it in the same write did to the mark of its attribute.
-- Made by tools/script_theorems from tests/cases/rows/marks_within_a_write.script.
use Rattle.std.specs.Prelude.{◌≡◌, List, [], ◌∷◌, true, false, Ok, codes}
use Rattle.pps_types.specs.declared.event.Event.{Event}
use Rattle.pps_types.specs.declared.event.Request.TheVariants.{Attach, Open as OpenRequest, Read, Write}
use Rattle.pps_types.specs.declared.outcome.Outcome.TheVariants.{Done, Opened as OpenedHandle, Data, Wrote}
use Rattle.pps_types.specs.Outcome.{Reply}
use Rattle.pps_types.specs.Machine.{start}
use Rattle.pps_types.specs.Runs.{replies}
use Rattle.worked_rows.specs.Scripts.Words.{◌asks◌}

abbrev pub events : List Event
events =
    1 asks Attach
    ∷ 2 asks Attach
    ∷ 1 asks OpenRequest (record { r = true; w = true; c = true; t = false }) (codes "/gps")
    ∷ 2 asks OpenRequest (record { r = true; w = false; c = false; t = false }) (codes "/gps?delta")
    ∷ 2 asks Read 2 99
    ∷ 1 asks Write 1 (codes "[n]a::1\na::2\n-a\na::3\n")
    ∷ 1 asks Write 1 (codes "[n]a::4\n[-n]a::5\na::6\n")
    ∷ 2 asks Read 2 99
    ∷ []

abbrev pub answers : List Reply
answers =
    Ok Done
    ∷ Ok Done
    ∷ Ok (OpenedHandle 1)
    ∷ Ok (OpenedHandle 2)
    ∷ Ok (Data (codes "@gps\n"))
    ∷ Ok (Wrote 21)
    ∷ Ok (Wrote 22)
    ∷ Ok (Data (codes "@gps\n[n]a::1\n[n]a::2\n-a\na::3\n@gps\n[n]a::4\na::5\na::6\n"))
    ∷ []

-- the machine answers the events so
abbrev pub MarksWithinAWrite : Type 0
MarksWithinAWrite = replies (start 1 256) events ≡ answers
