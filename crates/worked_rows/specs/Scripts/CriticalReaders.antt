-- A critical handle that cannot write says nothing when it closes.
-- Made by tools/script_theorems from tests/cases/rows/critical_readers.script.
use Rattle.std.specs.Prelude.{◌≡◌, List, [], ◌∷◌, true, false, Ok, codes}
use Rattle.pps_types.specs.declared.event.Event.{Event}
use Rattle.pps_types.specs.declared.event.Request.TheVariants.{Attach, Open as OpenRequest, Read, Write, Close}
use Rattle.pps_types.specs.declared.outcome.Outcome.TheVariants.{Done, Opened as OpenedHandle, Data, Wrote}
use Rattle.pps_types.specs.Outcome.{Reply}
use Rattle.pps_types.specs.Machine.{start}
use Rattle.pps_types.specs.Runs.{replies}
use Rattle.worked_rows.specs.Scripts.Words.{◌asks◌}

abbrev pub events : List Event
events =
    1 asks Attach
    ∷ 2 asks Attach
    ∷ 1 asks OpenRequest (record { r = true; w = true; c = true; t = false }) (codes "/gps")
    ∷ 1 asks Write 1 (codes "[n]a::1\n")
    ∷ 2 asks OpenRequest (record { r = true; w = false; c = false; t = false }) (codes "/gps?critical")
    ∷ 2 asks Close 2
    ∷ 1 asks Read 1 99
    ∷ 2 asks OpenRequest (record { r = false; w = true; c = false; t = false }) (codes "/gps?critical")
    ∷ 2 asks Close 3
    ∷ 1 asks Read 1 99
    ∷ []

abbrev pub answers : List Reply
answers =
    Ok Done
    ∷ Ok Done
    ∷ Ok (OpenedHandle 1)
    ∷ Ok (Wrote 8)
    ∷ Ok (OpenedHandle 2)
    ∷ Ok Done
    ∷ Ok (Data (codes "@gps\n[n]a::1\n"))
    ∷ Ok (OpenedHandle 3)
    ∷ Ok Done
    ∷ Ok (Data (codes "@gps\n"))
    ∷ []

-- the machine answers the events so
abbrev pub CriticalReaders : Type 0
CriticalReaders = replies (start 1 256) events ≡ answers
