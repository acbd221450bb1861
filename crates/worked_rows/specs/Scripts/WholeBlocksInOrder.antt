-- A read gives whole blocks in order, up to the first that does not fit; the others stay owed.
-- Made by tools/script_theorems from tests/cases/rows/whole_blocks_in_order.script.
use Rattle.std.specs.Prelude.{◌≡◌, List, [], ◌∷◌, true, false, Ok, Err, codes}
use Rattle.pps_types.specs.declared.event.Event.{Event}
use Rattle.pps_types.specs.declared.event.Request.TheVariants.{Attach, Open as OpenRequest, Read, Write}
use Rattle.pps_types.specs.declared.outcome.Outcome.TheVariants.{Done, Opened as OpenedHandle, Data, Wrote}
use Rattle.pps_types.specs.declared.refusal.Refusal.TheVariants.{TooSmall}
use Rattle.pps_types.specs.Outcome.{Reply}
use Rattle.pps_types.specs.Machine.{start}
use Rattle.pps_types.specs.Runs.{replies}
use Rattle.worked_rows.specs.Scripts.Words.{◌asks◌}

abbrev pub events : List Event
events =
    1 asks Attach
    ∷ 2 asks Attach
    ∷ 1 asks OpenRequest (record { r = true; w = true; c = true; t = false }) (codes "/gps")
    ∷ 2 asks OpenRequest (record { r = true; w = false; c = false; t = false }) (codes "/gps?delta")
    ∷ 2 asks Read 2 99
    ∷ 1 asks Write 1 (codes "a::1\n")
    ∷ 1 asks Write 1 (codes "b::12345678901234567890\n")
    ∷ 1 asks Write 1 (codes "c::3\n")
    ∷ 2 asks Read 2 20
    ∷ 2 asks Read 2 28
    ∷ 2 asks Read 2 39
    ∷ []

abbrev pub answers : List Reply
answers =
    Ok Done
    ∷ Ok Done
    ∷ Ok (OpenedHandle 1)
    ∷ Ok (OpenedHandle 2)
    ∷ Ok (Data (codes "@gps\n"))
    ∷ Ok (Wrote 5)
    ∷ Ok (Wrote 24)
    ∷ Ok (Wrote 5)
    ∷ Ok (Data (codes "@gps\na::1\n"))
    ∷ Err (TooSmall 29)
    ∷ Ok (Data (codes "@gps\nb::12345678901234567890\n@gps\nc::3\n"))
    ∷ []

-- the machine answers the events so
abbrev pub WholeBlocksInOrder : Type 0
WholeBlocksInOrder = replies (start 1 256) events ≡ answers
