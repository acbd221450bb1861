-- A delta subscriber is given everything at first, and then each change by itself, in order.
-- Made by tools/script_theorems from tests/cases/rows/delta_reads.script.
use Rattle.std.specs.Prelude.{◌≡◌, List, [], ◌∷◌, true, false, Ok, codes}
use Rattle.pps_types.specs.declared.event.Event.{Event}
use Rattle.pps_types.specs.declared.event.Request.TheVariants.{Attach, Open as OpenRequest, Read, Write}
use Rattle.pps_types.specs.declared.outcome.Outcome.TheVariants.{Done, Opened as OpenedHandle, Data, Wrote}
use Rattle.pps_types.specs.Outcome.{Reply}
use Rattle.pps_types.specs.Machine.{start}
use Rattle.pps_types.specs.Runs.{replies}
use Rattle.worked_rows.specs.Scripts.Words.{◌asks◌}

abbrev pub events : List Event
events =
    1 asks Attach
    ∷ 2 asks Attach
    ∷ 1 asks OpenRequest (record { r = true; w = true; c = true; t = false }) (codes "/gps")
    ∷ 1 asks Write 1 (codes "city::Ottawa\n")
    ∷ 2 asks OpenRequest (record { r = true; w = false; c = false; t = false }) (codes "/gps?delta")
    ∷ 2 asks Read 2 4096
    ∷ 1 asks Write 1 (codes "city::Rome\nspeed:n:5\n")
    ∷ 1 asks Write 1 (codes "-city\n")
    ∷ 2 asks Read 2 4096
    ∷ []

abbrev pub answers : List Reply
answers =
    Ok Done
    ∷ Ok Done
    ∷ Ok (OpenedHandle 1)
    ∷ Ok (Wrote 13)
    ∷ Ok (OpenedHandle 2)
    ∷ Ok (Data (codes "@gps\ncity::Ottawa\n"))
    ∷ Ok (Wrote 21)
    ∷ Ok (Wrote 6)
    ∷ Ok (Data (codes "@gps\ncity::Rome\nspeed:n:5\n@gps\n-city\n"))
    ∷ []

-- the machine answers the events so
abbrev pub DeltaReads : Type 0
DeltaReads = replies (start 1 256) events ≡ answers
