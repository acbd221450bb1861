-- A change has a block only where a line of it matches the filter, and the block shows the matching lines alone.
-- Made by tools/script_theorems from tests/cases/rows/filtered_deltas.script.
use Rattle.std.specs.Prelude.{◌≡◌, List, [], ◌∷◌, true, false, Ok, codes}
use Rattle.pps_types.specs.declared.event.Event.{Event}
use Rattle.pps_types.specs.declared.event.Request.TheVariants.{Attach, Open as OpenRequest, Read, Write}
use Rattle.pps_types.specs.declared.outcome.Outcome.TheVariants.{Done, Opened as OpenedHandle, Data, Wrote}
use Rattle.pps_types.specs.Outcome.{Reply}
use Rattle.pps_types.specs.Machine.{start}
use Rattle.pps_types.specs.Runs.{replies}
use Rattle.worked_rows.specs.Scripts.Words.{◌asks◌}

abbrev pub events : List Event
events =
    1 asks Attach
    ∷ 2 asks Attach
    ∷ 1 asks OpenRequest (record { r = true; w = true; c = true; t = false }) (codes "/gps")
    ∷ 2 asks OpenRequest (record { r = true; w = false; c = false; t = false }) (codes "/gps?delta,f=speed>60+city")
    ∷ 2 asks Read 2 99
    ∷ 1 asks Write 1 (codes "speed:n:60\n")
    ∷ 1 asks Write 1 (codes "speed:n:61\nalt::9\n")
    ∷ 1 asks Write 1 (codes "alt::1\n")
    ∷ 2 asks Read 2 99
    ∷ []

abbrev pub answers : List Reply
answers =
    Ok Done
    ∷ Ok Done
    ∷ Ok (OpenedHandle 1)
    ∷ Ok (OpenedHandle 2)
    ∷ Ok (Data (codes "@gps\n"))
    ∷ Ok (Wrote 11)
    ∷ Ok (Wrote 18)
    ∷ Ok (Wrote 7)
    ∷ Ok (Data (codes "@gps\nspeed:n:61\n"))
    ∷ []

-- the machine answers the events so
abbrev pub FilteredDeltas : Type 0
FilteredDeltas = replies (start 1 256) events ≡ answers
