-- Each Notify first drops what was armed on its handle. Tranarm arms a pulse while there is news, which fires when news
-- comes anew; Pollarm does not.
-- Made by tools/script_theorems from tests/cases/rows/arming_and_disarming.script.
use Rattle.std.specs.Prelude.{◌≡◌, List, [], ◌∷◌, true, false, Ok, codes}
use Rattle.pps_types.specs.declared.event.Event.{Event}
use Rattle.pps_types.specs.declared.event.Request.TheVariants.{Attach, Open as OpenRequest, Read, Write, Notify, Receive}
use Rattle.pps_types.specs.declared.event.Action.TheVariants.{Poll, Pollarm, Tranarm}
use Rattle.pps_types.specs.declared.outcome.Outcome.TheVariants.{Done, Opened as OpenedHandle, Data, Wrote, Input, Item as ItemOutcome, Empty}
use Rattle.pps_types.specs.declared.outcome.Item.TheVariants.{Pulse}
use Rattle.pps_types.specs.Outcome.{Reply}
use Rattle.pps_types.specs.Machine.{start}
use Rattle.pps_types.specs.Runs.{replies}
use Rattle.worked_rows.specs.Scripts.Words.{◌asks◌}

abbrev pub events : List Event
events =
    1 asks Attach
    ∷ 2 asks Attach
    ∷ 1 asks OpenRequest (record { r = true; w = true; c = true; t = false }) (codes "/gps")
    ∷ 2 asks OpenRequest (record { r = true; w = false; c = false; t = false }) (codes "/gps")
    ∷ 2 asks Read 2 99
    ∷ 2 asks Notify 2 Pollarm 1 1
    ∷ 2 asks Notify 2 Poll 2 2
    ∷ 1 asks Write 1 (codes "a::1\n")
    ∷ 2 asks Receive
    ∷ 2 asks Read 2 99
    ∷ 2 asks Notify 2 Pollarm 1 1
    ∷ 2 asks Notify 2 Tranarm 3 3
    ∷ 1 asks Write 1 (codes "a::2\n")
    ∷ 2 asks Receive
    ∷ 2 asks Receive
    ∷ 2 asks Notify 2 Tranarm 4 4
    ∷ 1 asks Write 1 (codes "a::3\n")
    ∷ 2 asks Receive
    ∷ 2 asks Read 2 99
    ∷ 1 asks Write 1 (codes "a::4\n")
    ∷ 2 asks Receive
    ∷ 2 asks Receive
    ∷ 2 asks Notify 2 Pollarm 5 5
    ∷ 2 asks Read 2 99
    ∷ 1 asks Write 1 (codes "a::5\n")
    ∷ 2 asks Receive
    ∷ []

abbrev pub answers : List Reply
answers =
    Ok Done
    ∷ Ok Done
    ∷ Ok (OpenedHandle 1)
    ∷ Ok (OpenedHandle 2)
    ∷ Ok (Data (codes "@gps\n"))
    ∷ Ok (Input false)
    ∷ Ok (Input false)
    ∷ Ok (Wrote 5)
    ∷ Ok Empty
    ∷ Ok (Data (codes "@gps\na::1\n"))
    ∷ Ok (Input false)
    ∷ Ok (Input false)
    ∷ Ok (Wrote 5)
    ∷ Ok (ItemOutcome (Pulse 3 3))
    ∷ Ok Empty
    ∷ Ok (Input true)
    ∷ Ok (Wrote 5)
    ∷ Ok Empty
    ∷ Ok (Data (codes "@gps\na::3\n"))
    ∷ Ok (Wrote 5)
    ∷ Ok (ItemOutcome (Pulse 4 4))
    ∷ Ok Empty
    ∷ Ok (Input true)
    ∷ Ok (Data (codes "@gps\na::4\n"))
    ∷ Ok (Wrote 5)
    ∷ Ok Empty
    ∷ []

-- the machine answers the events so
abbrev pub ArmingAndDisarming : Type 0
ArmingAndDisarming = replies (start 1 256) events ≡ answers
