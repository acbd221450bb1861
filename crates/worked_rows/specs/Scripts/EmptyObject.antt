-- A write without lines is answered its size and is no change. A read has a size of at least 1.
-- Made by tools/script_theorems from tests/cases/rows/empty_object.script.
use Rattle.std.specs.Prelude.{◌≡◌, List, [], ◌∷◌, true, false, Ok, Err, codes}
use Rattle.pps_types.specs.declared.event.Event.{Event}
use Rattle.pps_types.specs.declared.event.Request.TheVariants.{Attach, Open as OpenRequest, Read, Write}
use Rattle.pps_types.specs.declared.outcome.Outcome.TheVariants.{Done, Opened as OpenedHandle, Data, Wrote}
use Rattle.pps_types.specs.declared.refusal.Refusal.TheVariants.{TooSmall, BadArgument}
use Rattle.pps_types.specs.Outcome.{Reply}
use Rattle.pps_types.specs.Machine.{start}
use Rattle.pps_types.specs.Runs.{replies}
use Rattle.worked_rows.specs.Scripts.Words.{◌asks◌}

abbrev pub events : List Event
events =
    1 asks Attach
    ∷ 2 asks Attach
    ∷ 1 asks OpenRequest (record { r = true; w = true; c = true; t = false }) (codes "/e")
    ∷ 1 asks Write 1 []
    ∷ 2 asks OpenRequest (record { r = true; w = false; c = false; t = false }) (codes "/e?delta")
    ∷ 2 asks Read 2 1
    ∷ 2 asks Read 2 3
    ∷ 1 asks Write 1 []
    ∷ 2 asks Read 2 3
    ∷ 2 asks Read 2 0
    ∷ []

abbrev pub answers : List Reply
answers =
    Ok Done
    ∷ Ok Done
    ∷ Ok (OpenedHandle 1)
    ∷ Ok (Wrote 0)
    ∷ Ok (OpenedHandle 2)
    ∷ Err (TooSmall 3)
    ∷ Ok (Data (codes "@e\n"))
    ∷ Ok (Wrote 0)
    ∷ Ok (Data [])
    ∷ Err BadArgument
    ∷ []

-- the machine answers the events so
abbrev pub EmptyObject : Type 0
EmptyObject = replies (start 1 256) events ≡ answers
