-- A handle that has not read yet has news, so Pollarm arms nothing; a pulse fires when news comes where there was none,
-- and once.
-- Made by tools/script_theorems from tests/cases/rows/news_and_arming.script.
use Rattle.std.specs.Prelude.{◌≡◌, List, [], ◌∷◌, true, false, Ok, Err, codes}
use Rattle.pps_types.specs.declared.event.Event.{Event}
use Rattle.pps_types.specs.declared.event.Request.TheVariants.{Attach, Open as OpenRequest, Read, Write, Notify, Receive}
use Rattle.pps_types.specs.declared.event.Action.TheVariants.{Poll, Pollarm, Tranarm}
use Rattle.pps_types.specs.declared.outcome.Outcome.TheVariants.{Done, Opened as OpenedHandle, Data, Wrote, Input, Item as ItemOutcome, Empty}
use Rattle.pps_types.specs.declared.outcome.Item.TheVariants.{Pulse}
use Rattle.pps_types.specs.declared.refusal.Refusal.TheVariants.{BadArgument}
use Rattle.pps_types.specs.Outcome.{Reply}
use Rattle.pps_types.specs.Machine.{start}
use Rattle.pps_types.specs.Runs.{replies}
use Rattle.worked_rows.specs.Scripts.Words.{◌asks◌}

abbrev pub events : List Event
events =
    1 asks Attach
    ∷ 2 asks Attach
    ∷ 1 asks OpenRequest (record { r = true; w = true; c = true; t = false }) (codes "/gps")
    ∷ 2 asks OpenRequest (record { r = true; w = false; c = false; t = false }) (codes "/gps")
    ∷ 2 asks Notify 2 Pollarm 1 9
    ∷ 2 asks Notify 2 Tranarm 1 9
    ∷ 1 asks Write 1 (codes "a::0\n")
    ∷ 2 asks Receive
    ∷ 2 asks Read 2 99
    ∷ 1 asks Write 1 (codes "a::1\n")
    ∷ 2 asks Receive
    ∷ 2 asks Receive
    ∷ 2 asks Notify 2 Poll 128 0
    ∷ []

abbrev pub answers : List Reply
answers =
    Ok Done
    ∷ Ok Done
    ∷ Ok (OpenedHandle 1)
    ∷ Ok (OpenedHandle 2)
    ∷ Ok (Input true)
    ∷ Ok (Input true)
    ∷ Ok (Wrote 5)
    ∷ Ok Empty
    ∷ Ok (Data (codes "@gps\na::0\n"))
    ∷ Ok (Wrote 5)
    ∷ Ok (ItemOutcome (Pulse 1 9))
    ∷ Ok Empty
    ∷ Err BadArgument
    ∷ []

-- the machine answers the events so
abbrev pub NewsAndArming : Type 0
NewsAndArming = replies (start 1 256) events ≡ answers
