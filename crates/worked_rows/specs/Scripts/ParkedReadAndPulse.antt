-- A change ends the parked read and fires the armed pulse of its handle, the pulse first. A second read is refused
-- while one is parked.
-- Made by tools/script_theorems from tests/cases/rows/parked_read_and_pulse.script.
use Rattle.std.specs.Prelude.{◌≡◌, List, [], ◌∷◌, true, false, Ok, Err, codes}
use Rattle.pps_types.specs.declared.event.Event.{Event}
use Rattle.pps_types.specs.declared.event.Request.TheVariants.{Attach, Open as OpenRequest, Read, Write, Notify, Receive}
use Rattle.pps_types.specs.declared.event.Action.TheVariants.{Pollarm}
use Rattle.pps_types.specs.declared.outcome.Outcome.TheVariants.{Done, Opened as OpenedHandle, Data, Wrote, Parked, Input, Item as ItemOutcome, Empty}
use Rattle.pps_types.specs.declared.outcome.Item.TheVariants.{Pulse, ReadDone}
use Rattle.pps_types.specs.declared.refusal.Refusal.TheVariants.{ReadPending}
use Rattle.pps_types.specs.Outcome.{Reply}
use Rattle.pps_types.specs.Machine.{start}
use Rattle.pps_types.specs.Runs.{replies}
use Rattle.worked_rows.specs.Scripts.Words.{◌asks◌}

abbrev pub events : List Event
events =
    1 asks Attach
    ∷ 2 asks Attach
    ∷ 1 asks OpenRequest (record { r = true; w = true; c = true; t = false }) (codes "/gps")
    ∷ 2 asks OpenRequest (record { r = true; w = false; c = false; t = false }) (codes "/gps?delta,wait")
    ∷ 2 asks Read 2 4096
    ∷ 2 asks Read 2 4096
    ∷ 2 asks Notify 2 Pollarm 5 77
    ∷ 2 asks Read 2 4096
    ∷ 1 asks Write 1 (codes "a::1\n")
    ∷ 1 asks Write 1 (codes "a::2\n")
    ∷ 2 asks Receive
    ∷ 2 asks Receive
    ∷ 2 asks Receive
    ∷ 2 asks Read 2 4096
    ∷ []

abbrev pub answers : List Reply
answers =
    Ok Done
    ∷ Ok Done
    ∷ Ok (OpenedHandle 1)
    ∷ Ok (OpenedHandle 2)
    ∷ Ok (Data (codes "@gps\n"))
    ∷ Ok Parked
    ∷ Ok (Input false)
    ∷ Err ReadPending
    ∷ Ok (Wrote 5)
    ∷ Ok (Wrote 5)
    ∷ Ok (ItemOutcome (Pulse 5 77))
    ∷ Ok (ItemOutcome (ReadDone 2 (Ok (codes "@gps\na::1\n"))))
    ∷ Ok Empty
    ∷ Ok (Data (codes "@gps\na::2\n"))
    ∷ []

-- the machine answers the events so
abbrev pub ParkedReadAndPulse : Type 0
ParkedReadAndPulse = replies (start 1 256) events ≡ answers
