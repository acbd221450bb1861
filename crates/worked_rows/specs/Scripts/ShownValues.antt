-- An object with values in two encodings that the program can show.
-- Made by tools/script_theorems from tests/cases/rows/shown_values.script.
use Rattle.std.specs.Prelude.{◌≡◌, List, [], ◌∷◌, true, false, Ok, codes}
use Rattle.pps_types.specs.declared.event.Event.{Event}
use Rattle.pps_types.specs.declared.event.Request.TheVariants.{Attach, Open as OpenRequest, Read, Write}
use Rattle.pps_types.specs.declared.outcome.Outcome.TheVariants.{Done, Opened as OpenedHandle, Data, Wrote}
use Rattle.pps_types.specs.Outcome.{Reply}
use Rattle.pps_types.specs.Machine.{start}
use Rattle.pps_types.specs.Runs.{replies}
use Rattle.worked_rows.specs.Scripts.Words.{◌asks◌}

abbrev pub events : List Event
events =
    1 asks Attach
    ∷ 2 asks Attach
    ∷ 1 asks OpenRequest (record { r = true; w = true; c = true; t = false }) (codes "/gps")
    ∷ 1 asks Write 1 (codes "k:b64:aGVsbG8=\nok:b:true\n")
    ∷ 2 asks OpenRequest (record { r = true; w = false; c = false; t = false }) (codes "/gps")
    ∷ 2 asks Read 2 99
    ∷ []

abbrev pub answers : List Reply
answers =
    Ok Done
    ∷ Ok Done
    ∷ Ok (OpenedHandle 1)
    ∷ Ok (Wrote 25)
    ∷ Ok (OpenedHandle 2)
    ∷ Ok (Data (codes "@gps\nk:b64:aGVsbG8=\nok:b:true\n"))
    ∷ []

-- the machine answers the events so
abbrev pub ShownValues : Type 0
ShownValues = replies (start 1 256) events ≡ answers
