-- Where an open names no limit, the service's default stands, here 1: a second change is past it.
-- Made by tools/script_theorems from tests/cases/rows/default_limit.script.
use Rattle.std.specs.Prelude.{◌≡◌, List, [], ◌∷◌, true, false, Ok, codes}
use Rattle.pps_types.specs.declared.event.Event.{Event}
use Rattle.pps_types.specs.declared.event.Request.TheVariants.{Attach, Open as OpenRequest, Read, Write}
use Rattle.pps_types.specs.declared.outcome.Outcome.TheVariants.{Done, Opened as OpenedHandle, Data, Wrote}
use Rattle.pps_types.specs.Outcome.{Reply}
use Rattle.pps_types.specs.Machine.{start}
use Rattle.pps_types.specs.Runs.{replies}
use Rattle.worked_rows.specs.Scripts.Words.{◌asks◌}

abbrev pub events : List Event
events =
    1 asks Attach
    ∷ 2 asks Attach
    ∷ 1 asks OpenRequest (record { r = true; w = true; c = true; t = false }) (codes "/gps")
    ∷ 2 asks OpenRequest (record { r = true; w = false; c = false; t = false }) (codes "/gps?delta")
    ∷ 2 asks Read 2 99
    ∷ 1 asks Write 1 (codes "a::1\n")
    ∷ 1 asks Write 1 (codes "a::2\n")
    ∷ 2 asks Read 2 99
    ∷ []

abbrev pub answers : List Reply
answers =
    Ok Done
    ∷ Ok Done
    ∷ Ok (OpenedHandle 1)
    ∷ Ok (OpenedHandle 2)
    ∷ Ok (Data (codes "@gps\n"))
    ∷ Ok (Wrote 5)
    ∷ Ok (Wrote 5)
    ∷ Ok (Data (codes "!@gps\na::2\n"))
    ∷ []

-- the machine answers the events so
abbrev pub DefaultLimit : Type 0
DefaultLimit = replies (start 1 1) events ≡ answers
