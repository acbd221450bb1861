-- A parked read is answered by what stands after the event that ends it: here that it was too small. Closing a handle
-- ends its parked read.
-- Made by tools/script_theorems from tests/cases/rows/late_reply_too_small.script.
use Rattle.std.specs.Prelude.{◌≡◌, List, [], ◌∷◌, true, false, Ok, Err, codes}
use Rattle.pps_types.specs.declared.event.Event.{Event}
use Rattle.pps_types.specs.declared.event.Request.TheVariants.{Attach, Open as OpenRequest, Read, Write, Close, Receive}
use Rattle.pps_types.specs.declared.outcome.Outcome.TheVariants.{Done, Opened as OpenedHandle, Data, Wrote, Parked, Item as ItemOutcome}
use Rattle.pps_types.specs.declared.outcome.Item.TheVariants.{ReadDone}
use Rattle.pps_types.specs.declared.refusal.Refusal.TheVariants.{BadHandle, TooSmall}
use Rattle.pps_types.specs.Outcome.{Reply}
use Rattle.pps_types.specs.Machine.{start}
use Rattle.pps_types.specs.Runs.{replies}
use Rattle.worked_rows.specs.Scripts.Words.{◌asks◌}

abbrev pub events : List Event
events =
    1 asks Attach
    ∷ 2 asks Attach
    ∷ 1 asks OpenRequest (record { r = true; w = true; c = true; t = false }) (codes "/gps")
    ∷ 2 asks OpenRequest (record { r = true; w = false; c = false; t = false }) (codes "/gps?delta,wait")
    ∷ 2 asks Read 2 99
    ∷ 2 asks Read 2 4
    ∷ 1 asks Write 1 (codes "-city\n")
    ∷ 2 asks Receive
    ∷ 2 asks Read 2 11
    ∷ 2 asks Read 2 11
    ∷ 2 asks Close 2
    ∷ 2 asks Receive
    ∷ 2 asks Read 2 11
    ∷ []

abbrev pub answers : List Reply
answers =
    Ok Done
    ∷ Ok Done
    ∷ Ok (OpenedHandle 1)
    ∷ Ok (OpenedHandle 2)
    ∷ Ok (Data (codes "@gps\n"))
    ∷ Ok Parked
    ∷ Ok (Wrote 6)
    ∷ Ok (ItemOutcome (ReadDone 2 (Err (TooSmall 11))))
    ∷ Ok (Data (codes "@gps\n-city\n"))
    ∷ Ok Parked
    ∷ Ok Done
    ∷ Ok (ItemOutcome (ReadDone 2 (Err BadHandle)))
    ∷ Err BadHandle
    ∷ []

-- the machine answers the events so
abbrev pub LateReplyTooSmall : Type 0
LateReplyTooSmall = replies (start 1 256) events ≡ answers
