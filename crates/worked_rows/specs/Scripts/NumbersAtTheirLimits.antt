-- Connections are numbered from 1 to 1,024, sizes of reads are from 1 to 17,000,000, and codes of pulses up to 127. A
-- refused Notify leaves what is armed.
-- Made by tools/script_theorems from tests/cases/rows/numbers_at_their_limits.script.
use Rattle.std.specs.Prelude.{◌≡◌, List, [], ◌∷◌, true, false, Ok, Err, codes}
use Rattle.pps_types.specs.declared.event.Event.{Event}
use Rattle.pps_types.specs.declared.event.Request.TheVariants.{Attach, Open as OpenRequest, Read, Write, List as ListRequest, Notify, Receive}
use Rattle.pps_types.specs.declared.event.Action.TheVariants.{Pollarm}
use Rattle.pps_types.specs.declared.outcome.Outcome.TheVariants.{Done, Opened as OpenedHandle, Data, Wrote, Input, Item as ItemOutcome, Empty}
use Rattle.pps_types.specs.declared.outcome.Item.TheVariants.{Pulse}
use Rattle.pps_types.specs.declared.refusal.Refusal.TheVariants.{NotAttached, BadArgument}
use Rattle.pps_types.specs.Outcome.{Reply}
use Rattle.pps_types.specs.Machine.{start}
use Rattle.pps_types.specs.Runs.{replies}
use Rattle.worked_rows.specs.Scripts.Words.{◌asks◌}

abbrev pub events : List Event
events =
    0 asks Attach
    ∷ 1 asks Attach
    ∷ 1024 asks Attach
    ∷ 1025 asks Attach
    ∷ 1025 asks ListRequest (codes "/")
    ∷ 1024 asks OpenRequest (record { r = true; w = true; c = true; t = false }) (codes "/gps")
    ∷ 1024 asks Read 1 0
    ∷ 1024 asks Read 1 17000001
    ∷ 1024 asks Read 1 17000000
    ∷ 1024 asks Notify 1 Pollarm 127 4294967295
    ∷ 1024 asks Notify 1 Pollarm 128 0
    ∷ 1 asks OpenRequest (record { r = true; w = true; c = false; t = false }) (codes "/gps")
    ∷ 1 asks Write 2 (codes "a::1\n")
    ∷ 1024 asks Receive
    ∷ 1024 asks Receive
    ∷ []

abbrev pub answers : List Reply
answers =
    Err BadArgument
    ∷ Ok Done
    ∷ Ok Done
    ∷ Err BadArgument
    ∷ Err NotAttached
    ∷ Ok (OpenedHandle 1)
    ∷ Err BadArgument
    ∷ Err BadArgument
    ∷ Ok (Data (codes "@gps\n"))
    ∷ Ok (Input false)
    ∷ Err BadArgument
    ∷ Ok (OpenedHandle 2)
    ∷ Ok (Wrote 5)
    ∷ Ok (ItemOutcome (Pulse 127 4294967295))
    ∷ Ok Empty
    ∷ []

-- the machine answers the events so
abbrev pub NumbersAtTheirLimits : Type 0
NumbersAtTheirLimits = replies (start 1 256) events ≡ answers
