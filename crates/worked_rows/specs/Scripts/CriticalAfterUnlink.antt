-- A critical publisher of a deleted object says nothing when its handle closes. `.all` is never critical.
-- Made by tools/script_theorems from tests/cases/rows/critical_after_unlink.script.
use Rattle.std.specs.Prelude.{◌≡◌, List, [], ◌∷◌, true, false, Ok, Err, codes}
use Rattle.pps_types.specs.declared.event.Event.{Event}
use Rattle.pps_types.specs.declared.event.Request.TheVariants.{Attach, Open as OpenRequest, Read, Close, Unlink}
use Rattle.pps_types.specs.declared.outcome.Outcome.TheVariants.{Done, Opened as OpenedHandle, Data}
use Rattle.pps_types.specs.declared.refusal.Refusal.TheVariants.{BadOption}
use Rattle.pps_types.specs.Outcome.{Reply}
use Rattle.pps_types.specs.Machine.{start}
use Rattle.pps_types.specs.Runs.{replies}
use Rattle.worked_rows.specs.Scripts.Words.{◌asks◌}

abbrev pub events : List Event
events =
    1 asks Attach
    ∷ 2 asks Attach
    ∷ 1 asks OpenRequest (record { r = true; w = true; c = true; t = false }) (codes "/gps?critical")
    ∷ 2 asks OpenRequest (record { r = true; w = false; c = false; t = false }) (codes "/gps?delta")
    ∷ 2 asks Read 2 99
    ∷ 1 asks Unlink (codes "/gps")
    ∷ 1 asks Close 1
    ∷ 2 asks Read 2 99
    ∷ 2 asks OpenRequest (record { r = true; w = false; c = false; t = false }) (codes "/.all?critical")
    ∷ []

abbrev pub answers : List Reply
answers =
    Ok Done
    ∷ Ok Done
    ∷ Ok (OpenedHandle 1)
    ∷ Ok (OpenedHandle 2)
    ∷ Ok (Data (codes "@gps\n"))
    ∷ Ok Done
    ∷ Ok Done
    ∷ Ok (Data (codes "-@gps\n"))
    ∷ Err BadOption
    ∷ []

-- the machine answers the events so
abbrev pub CriticalAfterUnlink : Type 0
CriticalAfterUnlink = replies (start 1 256) events ≡ answers
