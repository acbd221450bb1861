-- What the saved image is made from: one attribute and one object of these are not persistent.
-- Made by tools/script_theorems from tests/cases/rows/image.script.
use Rattle.std.specs.Prelude.{◌≡◌, List, [], ◌∷◌, true, false, Ok, codes}
use Rattle.pps_types.specs.declared.event.Event.{Event}
use Rattle.pps_types.specs.declared.event.Request.TheVariants.{Attach, Open as OpenRequest, Write}
use Rattle.pps_types.specs.declared.outcome.Outcome.TheVariants.{Done, Opened as OpenedHandle, Wrote}
use Rattle.pps_types.specs.Outcome.{Reply}
use Rattle.pps_types.specs.Machine.{start}
use Rattle.pps_types.specs.Runs.{replies}
use Rattle.worked_rows.specs.Scripts.Words.{◌asks◌}

abbrev pub events : List Event
events =
    1 asks Attach
    ∷ 1 asks OpenRequest (record { r = true; w = true; c = true; t = false }) (codes "/gps")
    ∷ 1 asks Write 1 (codes "a::1\n[n]b::2\n")
    ∷ 1 asks OpenRequest (record { r = true; w = true; c = true; t = false }) (codes "/tmp?nopersist")
    ∷ 1 asks Write 2 (codes "c::3\n")
    ∷ []

abbrev pub answers : List Reply
answers =
    Ok Done
    ∷ Ok (OpenedHandle 1)
    ∷ Ok (Wrote 13)
    ∷ Ok (OpenedHandle 2)
    ∷ Ok (Wrote 5)
    ∷ []

-- the machine answers the events so
abbrev pub Image : Type 0
Image = replies (start 1 256) events ≡ answers
