-- Names of attributes have at most 255 bytes, encodings 32, names of a path 255; a path has at most 32 names, `.all`
-- not among them.
-- Made by tools/script_theorems from tests/cases/rows/lengths_of_texts.script.
use Rattle.std.specs.Prelude.{◌≡◌, List, [], ◌∷◌, ◌++◌, true, false, Ok, Err, codes, replicate}
use Rattle.pps_types.specs.declared.event.Event.{Event}
use Rattle.pps_types.specs.declared.event.Request.TheVariants.{Attach, Open as OpenRequest, Write, Mkdir}
use Rattle.pps_types.specs.declared.outcome.Outcome.TheVariants.{Done, Opened as OpenedHandle, Wrote}
use Rattle.pps_types.specs.declared.refusal.Refusal.TheVariants.{BadPath, NotFound, BadText}
use Rattle.pps_types.specs.Outcome.{Reply}
use Rattle.pps_types.specs.Machine.{start}
use Rattle.pps_types.specs.Runs.{replies}
use Rattle.worked_rows.specs.Scripts.Words.{◌asks◌}

abbrev pub events : List Event
events =
    1 asks Attach
    ∷ 1 asks OpenRequest (record { r = true; w = true; c = true; t = false }) (codes "/gps")
    ∷ 1 asks Write 1 (codes "nnnnnnnnnnnnnnnnnnnnnnnnnnnnnnnnnnnnnnnnnnnnnnnnnnnnnnnnnnnnnnnnnnnnnnnnnnnnnnnnnnnnnnnnnnnnnnnnnnnnnnnnnnnnnnnnnnnnnnnnnnnnnnnnnnnnnnnnnnnnnnnnnnnnnnnnnnnnnnnnnnnnnnnnnnnnnnnnnnnnnnnnnnnnnnnnnnnnnnnnnnnnnnnnnnnnnnnnnnnnnnnnnnnnnnnnnnnnnnnnnnnnnnnnnnnnnnn::1\n")
    ∷ 1 asks Write 1 (replicate 256 110 ++ codes "::1\n")
    ∷ 1 asks Write 1 (codes "a:eeeeeeeeeeeeeeeeeeeeeeeeeeeeeeee:1\n")
    ∷ 1 asks Write 1 (codes "a:eeeeeeeeeeeeeeeeeeeeeeeeeeeeeeeee:1\n")
    ∷ 1 asks OpenRequest (record { r = true; w = true; c = true; t = false }) (codes "/nnnnnnnnnnnnnnnnnnnnnnnnnnnnnnnnnnnnnnnnnnnnnnnnnnnnnnnnnnnnnnnnnnnnnnnnnnnnnnnnnnnnnnnnnnnnnnnnnnnnnnnnnnnnnnnnnnnnnnnnnnnnnnnnnnnnnnnnnnnnnnnnnnnnnnnnnnnnnnnnnnnnnnnnnnnnnnnnnnnnnnnnnnnnnnnnnnnnnnnnnnnnnnnnnnnnnnnnnnnnnnnnnnnnnnnnnnnnnnnnnnnnnnnnnnnnnnn")
    ∷ 1 asks OpenRequest (record { r = true; w = true; c = true; t = false }) (codes "/" ++ replicate 256 110)
    ∷ 1 asks OpenRequest (record { r = true; w = false; c = false; t = false }) (codes "/d/d/d/d/d/d/d/d/d/d/d/d/d/d/d/d/d/d/d/d/d/d/d/d/d/d/d/d/d/d/d/d")
    ∷ 1 asks OpenRequest (record { r = true; w = false; c = false; t = false }) (codes "/d/d/d/d/d/d/d/d/d/d/d/d/d/d/d/d/d/d/d/d/d/d/d/d/d/d/d/d/d/d/d/d/d")
    ∷ 1 asks OpenRequest (record { r = true; w = false; c = false; t = false }) (codes "/d/d/d/d/d/d/d/d/d/d/d/d/d/d/d/d/d/d/d/d/d/d/d/d/d/d/d/d/d/d/d/d/.all")
    ∷ 1 asks OpenRequest (record { r = true; w = false; c = false; t = false }) (codes "/d/d/d/d/d/d/d/d/d/d/d/d/d/d/d/d/d/d/d/d/d/d/d/d/d/d/d/d/d/d/d/d/d/.all")
    ∷ 1 asks Mkdir (codes "/d/d/d/d/d/d/d/d/d/d/d/d/d/d/d/d/d/d/d/d/d/d/d/d/d/d/d/d/d/d/d/d/d")
    ∷ []

abbrev pub answers : List Reply
answers =
    Ok Done
    ∷ Ok (OpenedHandle 1)
    ∷ Ok (Wrote 259)
    ∷ Err (BadText 1)
    ∷ Ok (Wrote 37)
    ∷ Err (BadText 1)
    ∷ Ok (OpenedHandle 2)
    ∷ Err BadPath
    ∷ Err NotFound
    ∷ Err BadPath
    ∷ Err NotFound
    ∷ Err BadPath
    ∷ Err BadPath
    ∷ []

-- the machine answers the events so
abbrev pub LengthsOfTexts : Type 0
LengthsOfTexts = replies (start 1 256) events ≡ answers
