-- Reads and Notify are judged by the handle's rights first, and then by their numbers; only then a read by the one that
-- is parked.
-- Made by tools/script_theorems from tests/cases/rows/order_of_checks_of_reads.script.
use Rattle.std.specs.Prelude.{◌≡◌, List, [], ◌∷◌, true, false, Ok, Err, codes}
use Rattle.pps_types.specs.declared.event.Event.{Event}
use Rattle.pps_types.specs.declared.event.Request.TheVariants.{Attach, Open as OpenRequest, Read, Write, Notify}
use Rattle.pps_types.specs.declared.event.Action.TheVariants.{Poll}
use Rattle.pps_types.specs.declared.outcome.Outcome.TheVariants.{Done, Opened as OpenedHandle, Data, Parked}
use Rattle.pps_types.specs.declared.refusal.Refusal.TheVariants.{BadMode, ReadPending, BadArgument}
use Rattle.pps_types.specs.Outcome.{Reply}
use Rattle.pps_types.specs.Machine.{start}
use Rattle.pps_types.specs.Runs.{replies}
use Rattle.worked_rows.specs.Scripts.Words.{◌asks◌}

abbrev pub events : List Event
events =
    1 asks Attach
    ∷ 1 asks OpenRequest (record { r = false; w = true; c = true; t = false }) (codes "/gps")
    ∷ 1 asks Read 1 0
    ∷ 1 asks Notify 1 Poll 128 0
    ∷ 1 asks OpenRequest (record { r = true; w = false; c = false; t = false }) (codes "/gps?wait")
    ∷ 1 asks Write 2 (codes "a::1\n")
    ∷ 1 asks Read 2 99
    ∷ 1 asks Read 2 99
    ∷ 1 asks Read 2 0
    ∷ 1 asks Read 2 99
    ∷ []

abbrev pub answers : List Reply
answers =
    Ok Done
    ∷ Ok (OpenedHandle 1)
    ∷ Err BadMode
    ∷ Err BadMode
    ∷ Ok (OpenedHandle 2)
    ∷ Err BadMode
    ∷ Ok (Data (codes "@gps\n"))
    ∷ Ok Parked
    ∷ Err BadArgument
    ∷ Err ReadPending
    ∷ []

-- the machine answers the events so
abbrev pub OrderOfChecksOfReads : Type 0
OrderOfChecksOfReads = replies (start 1 256) events ≡ answers
