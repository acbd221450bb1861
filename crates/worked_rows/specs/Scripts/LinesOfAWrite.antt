-- Which lines a write may have, and how a bad one is counted. The lines are judged before the header's name is.
-- Made by tools/script_theorems from tests/cases/rows/lines_of_a_write.script.
use Rattle.std.specs.Prelude.{◌≡◌, List, [], ◌∷◌, ◌++◌, true, false, Ok, Err, codes}
use Rattle.pps_types.specs.declared.event.Event.{Event}
use Rattle.pps_types.specs.declared.event.Request.TheVariants.{Attach, Open as OpenRequest, Read, Write}
use Rattle.pps_types.specs.declared.outcome.Outcome.TheVariants.{Done, Opened as OpenedHandle, Data, Wrote}
use Rattle.pps_types.specs.declared.refusal.Refusal.TheVariants.{BadText}
use Rattle.pps_types.specs.Outcome.{Reply}
use Rattle.pps_types.specs.Machine.{start}
use Rattle.pps_types.specs.Runs.{replies}
use Rattle.worked_rows.specs.Scripts.Words.{◌asks◌}

abbrev pub events : List Event
events =
    1 asks Attach
    ∷ 1 asks OpenRequest (record { r = true; w = true; c = true; t = false }) (codes "/gps")
    ∷ 1 asks Write 1 (codes "\n\n9b::1\n")
    ∷ 1 asks Write 1 (codes "\n@gps\na::1\n")
    ∷ 1 asks Write 1 (codes "a::1\n@gps\n")
    ∷ 1 asks Write 1 (codes "@other\na::1\n9b::2\n")
    ∷ 1 asks Write 1 (codes "[x]a::1\n")
    ∷ 1 asks Write 1 (codes "a:n\n")
    ∷ 1 asks Write 1 (codes "-9\n")
    ∷ 1 asks Write 1 (codes "-a:b\n")
    ∷ 1 asks Write 1 (codes "[n]-a\n")
    ∷ 1 asks Write 1 (128 ∷ [] ++ codes "::1\n")
    ∷ 1 asks Write 1 (codes "@gps\n\na:n:x:y\n\nb::" ++ 128 ∷ [])
    ∷ 1 asks Read 1 99
    ∷ []

abbrev pub answers : List Reply
answers =
    Ok Done
    ∷ Ok (OpenedHandle 1)
    ∷ Err (BadText 3)
    ∷ Err (BadText 2)
    ∷ Err (BadText 2)
    ∷ Err (BadText 3)
    ∷ Err (BadText 1)
    ∷ Err (BadText 1)
    ∷ Err (BadText 1)
    ∷ Err (BadText 1)
    ∷ Err (BadText 1)
    ∷ Err (BadText 1)
    ∷ Ok (Wrote 19)
    ∷ Ok (Data (codes "@gps\na:n:x:y\nb::" ++ 128 ∷ [] ++ codes "\n"))
    ∷ []

-- the machine answers the events so
abbrev pub LinesOfAWrite : Type 0
LinesOfAWrite = replies (start 1 256) events ≡ answers
