-- A write is judged by its handle, its handle's rights, its size, the object's death and its text, in this order.
-- Made by tools/script_theorems from tests/cases/rows/order_of_checks_of_writes.script.
use Rattle.std.specs.Prelude.{◌≡◌, List, [], ◌∷◌, true, false, Ok, Err, codes, replicate}
use Rattle.pps_types.specs.declared.event.Event.{Event}
use Rattle.pps_types.specs.declared.event.Request.TheVariants.{Attach, Open as OpenRequest, Read, Write, Close, Unlink}
use Rattle.pps_types.specs.declared.outcome.Outcome.TheVariants.{Done, Opened as OpenedHandle}
use Rattle.pps_types.specs.declared.refusal.Refusal.TheVariants.{BadHandle, BadMode, TooLarge, Gone}
use Rattle.pps_types.specs.Outcome.{Reply}
use Rattle.pps_types.specs.Machine.{start}
use Rattle.pps_types.specs.Runs.{replies}
use Rattle.worked_rows.specs.Scripts.Words.{◌asks◌}

abbrev pub events : List Event
events =
    1 asks Attach
    ∷ 2 asks Attach
    ∷ 1 asks OpenRequest (record { r = true; w = true; c = true; t = false }) (codes "/gps")
    ∷ 1 asks OpenRequest (record { r = true; w = false; c = false; t = false }) (codes "/gps")
    ∷ 2 asks Write 1 (codes "a::1\n")
    ∷ 2 asks Close 1
    ∷ 2 asks Read 2 99
    ∷ 1 asks Unlink (codes "/gps")
    ∷ 1 asks Write 3 (codes "a::1\n")
    ∷ 1 asks Write 2 (replicate 65537 120)
    ∷ 1 asks Write 1 (replicate 65537 120)
    ∷ 1 asks Write 1 (codes "9b::1\n")
    ∷ []

abbrev pub answers : List Reply
answers =
    Ok Done
    ∷ Ok Done
    ∷ Ok (OpenedHandle 1)
    ∷ Ok (OpenedHandle 2)
    ∷ Err BadHandle
    ∷ Err BadHandle
    ∷ Err BadHandle
    ∷ Ok Done
    ∷ Err BadHandle
    ∷ Err BadMode
    ∷ Err TooLarge
    ∷ Err Gone
    ∷ []

-- the machine answers the events so
abbrev pub OrderOfChecksOfWrites : Type 0
OrderOfChecksOfWrites = replies (start 1 256) events ≡ answers
