-- A read that is too small for the first change tells the size and moves nothing. One that is large enough for it gives
-- whole changes alone.
-- Made by tools/script_theorems from tests/cases/rows/delta_read_too_small.script.
use Rattle.std.specs.Prelude.{◌≡◌, List, [], ◌∷◌, true, false, Ok, Err, codes}
use Rattle.pps_types.specs.declared.event.Event.{Event}
use Rattle.pps_types.specs.declared.event.Request.TheVariants.{Attach, Open as OpenRequest, Read, Write}
use Rattle.pps_types.specs.declared.outcome.Outcome.TheVariants.{Done, Opened as OpenedHandle, Data, Wrote}
use Rattle.pps_types.specs.declared.refusal.Refusal.TheVariants.{TooSmall}
use Rattle.pps_types.specs.Outcome.{Reply}
use Rattle.pps_types.specs.Machine.{start}
use Rattle.pps_types.specs.Runs.{replies}
use Rattle.worked_rows.specs.Scripts.Words.{◌asks◌}

abbrev pub events : List Event
events =
    1 asks Attach
    ∷ 2 asks Attach
    ∷ 1 asks OpenRequest (record { r = true; w = true; c = true; t = false }) (codes "/gps")
    ∷ 1 asks Write 1 (codes "city::Ottawa\n")
    ∷ 2 asks OpenRequest (record { r = true; w = false; c = false; t = false }) (codes "/gps?delta")
    ∷ 2 asks Read 2 4096
    ∷ 1 asks Write 1 (codes "city::Rome\nspeed:n:5\n")
    ∷ 1 asks Write 1 (codes "-city\n")
    ∷ 2 asks Read 2 25
    ∷ 2 asks Read 2 30
    ∷ 2 asks Read 2 30
    ∷ []

abbrev pub answers : List Reply
answers =
    Ok Done
    ∷ Ok Done
    ∷ Ok (OpenedHandle 1)
    ∷ Ok (Wrote 13)
    ∷ Ok (OpenedHandle 2)
    ∷ Ok (Data (codes "@gps\ncity::Ottawa\n"))
    ∷ Ok (Wrote 21)
    ∷ Ok (Wrote 6)
    ∷ Err (TooSmall 26)
    ∷ Ok (Data (codes "@gps\ncity::Rome\nspeed:n:5\n"))
    ∷ Ok (Data (codes "@gps\n-city\n"))
    ∷ []

-- the machine answers the events so
abbrev pub DeltaReadTooSmall : Type 0
DeltaReadTooSmall = replies (start 1 256) events ≡ answers
