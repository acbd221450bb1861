-- An object's text has at most 65,536 bytes after the whole write: its lines as they are printed, with their marks.
-- Made by tools/script_theorems from tests/cases/rows/text_of_an_object.script.
use Rattle.std.specs.Prelude.{◌≡◌, List, [], ◌∷◌, ◌++◌, true, false, Ok, Err, codes, replicate}
use Rattle.pps_types.specs.declared.event.Event.{Event}
use Rattle.pps_types.specs.declared.event.Request.TheVariants.{Attach, Open as OpenRequest, Read, Write}
use Rattle.pps_types.specs.declared.outcome.Outcome.TheVariants.{Done, Opened as OpenedHandle, Data, Wrote}
use Rattle.pps_types.specs.declared.refusal.Refusal.TheVariants.{TooLarge}
use Rattle.pps_types.specs.Outcome.{Reply}
use Rattle.pps_types.specs.Machine.{start}
use Rattle.pps_types.specs.Runs.{replies}
use Rattle.worked_rows.specs.Scripts.Words.{◌asks◌}

abbrev pub events : List Event
events =
    1 asks Attach
    ∷ 1 asks OpenRequest (record { r = true; w = true; c = true; t = false }) (codes "/gps")
    ∷ 1 asks Write 1 (codes "a::" ++ replicate 65527 120 ++ codes "\n")
    ∷ 1 asks Write 1 (codes "b::1\n")
    ∷ 1 asks Write 1 (codes "b::12\n")
    ∷ 1 asks Write 1 (codes "[n]b::1\n")
    ∷ 1 asks Write 1 (codes "b::12\n-a\n")
    ∷ 1 asks Read 1 99
    ∷ []

abbrev pub answers : List Reply
answers =
    Ok Done
    ∷ Ok (OpenedHandle 1)
    ∷ Ok (Wrote 65531)
    ∷ Ok (Wrote 5)
    ∷ Err TooLarge
    ∷ Err TooLarge
    ∷ Ok (Wrote 9)
    ∷ Ok (Data (codes "@gps\nb::12\n"))
    ∷ []

-- the machine answers the events so
abbrev pub TextOfAnObject : Type 0
TextOfAnObject = replies (start 1 256) events ≡ answers
