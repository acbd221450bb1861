-- The deletion of an attribute matches wherever a part of the filter has its name, whatever that part asks of values.
-- Made by tools/script_theorems from tests/cases/rows/filtered_deletions.script.
use Rattle.std.specs.Prelude.{◌≡◌, List, [], ◌∷◌, true, false, Ok, codes}
use Rattle.pps_types.specs.declared.event.Event.{Event}
use Rattle.pps_types.specs.declared.event.Request.TheVariants.{Attach, Open as OpenRequest, Read, Write}
use Rattle.pps_types.specs.declared.outcome.Outcome.TheVariants.{Done, Opened as OpenedHandle, Data, Wrote}
use Rattle.pps_types.specs.Outcome.{Reply}
use Rattle.pps_types.specs.Machine.{start}
use Rattle.pps_types.specs.Runs.{replies}
use Rattle.worked_rows.specs.Scripts.Words.{◌asks◌}

abbrev pub events : List Event
events =
    1 asks Attach
    ∷ 2 asks Attach
    ∷ 1 asks OpenRequest (record { r = true; w = true; c = true; t = false }) (codes "/gps")
    ∷ 2 asks OpenRequest (record { r = true; w = false; c = false; t = false }) (codes "/gps?delta,f=speed>60+city=Rome")
    ∷ 2 asks Read 2 99
    ∷ 1 asks Write 1 (codes "speed:n:60\ncity::Bonn\n")
    ∷ 1 asks Write 1 (codes "-speed\n-city\n-other\n")
    ∷ 2 asks Read 2 99
    ∷ 2 asks Read 2 99
    ∷ []

abbrev pub answers : List Reply
answers =
    Ok Done
    ∷ Ok Done
    ∷ Ok (OpenedHandle 1)
    ∷ Ok (OpenedHandle 2)
    ∷ Ok (Data (codes "@gps\n"))
    ∷ Ok (Wrote 22)
    ∷ Ok (Wrote 20)
    ∷ Ok (Data (codes "@gps\n-speed\n-city\n"))
    ∷ Ok (Data [])
    ∷ []

-- the machine answers the events so
abbrev pub FilteredDeletions : Type 0
FilteredDeletions = replies (start 1 256) events ≡ answers
