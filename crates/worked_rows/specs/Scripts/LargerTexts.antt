-- A write of 65,536 bytes fills an object; one attribute more, or one byte more in a write, is too large.
-- Made by tools/script_theorems from tests/cases/rows/larger_texts.script.
use Rattle.std.specs.Prelude.{◌≡◌, List, [], ◌∷◌, ◌++◌, true, false, Ok, Err, codes, replicate}
use Rattle.pps_types.specs.declared.event.Event.{Event}
use Rattle.pps_types.specs.declared.event.Request.TheVariants.{Attach, Open as OpenRequest, Write}
use Rattle.pps_types.specs.declared.outcome.Outcome.TheVariants.{Done, Opened as OpenedHandle, Wrote}
use Rattle.pps_types.specs.declared.refusal.Refusal.TheVariants.{TooLarge}
use Rattle.pps_types.specs.Outcome.{Reply}
use Rattle.pps_types.specs.Machine.{start}
use Rattle.pps_types.specs.Runs.{replies}
use Rattle.worked_rows.specs.Scripts.Words.{◌asks◌}

abbrev pub events : List Event
events =
    1 asks Attach
    ∷ 1 asks OpenRequest (record { r = true; w = true; c = true; t = false }) (codes "/gps")
    ∷ 1 asks Write 1 (codes "a::" ++ replicate 65532 120 ++ codes "\n")
    ∷ 1 asks Write 1 (codes "b::1\n")
    ∷ 1 asks Write 1 (codes "a::" ++ replicate 65533 120 ++ codes "\n")
    ∷ []

abbrev pub answers : List Reply
answers =
    Ok Done
    ∷ Ok (OpenedHandle 1)
    ∷ Ok (Wrote 65536)
    ∷ Err TooLarge
    ∷ Err TooLarge
    ∷ []

-- the machine answers the events so
abbrev pub LargerTexts : Type 0
LargerTexts = replies (start 1 256) events ≡ answers
