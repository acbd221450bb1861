-- Parts of a filter ask for a value below, above or other than theirs; a value that is no number is neither below nor
-- above one.
-- Made by tools/script_theorems from tests/cases/rows/conditions_of_filters.script.
use Rattle.std.specs.Prelude.{◌≡◌, List, [], ◌∷◌, true, false, Ok, codes}
use Rattle.pps_types.specs.declared.event.Event.{Event}
use Rattle.pps_types.specs.declared.event.Request.TheVariants.{Attach, Open as OpenRequest, Read, Write}
use Rattle.pps_types.specs.declared.outcome.Outcome.TheVariants.{Done, Opened as OpenedHandle, Data, Wrote}
use Rattle.pps_types.specs.Outcome.{Reply}
use Rattle.pps_types.specs.Machine.{start}
use Rattle.pps_types.specs.Runs.{replies}
use Rattle.worked_rows.specs.Scripts.Words.{◌asks◌}

abbrev pub events : List Event
events =
    1 asks Attach
    ∷ 2 asks Attach
    ∷ 1 asks OpenRequest (record { r = true; w = true; c = true; t = false }) (codes "/gps")
    ∷ 2 asks OpenRequest (record { r = true; w = false; c = false; t = false }) (codes "/gps?delta,f=a<5+b>5+c!=x")
    ∷ 2 asks Read 2 99
    ∷ 1 asks Write 1 (codes "a::5\nb::5\nc::x\n")
    ∷ 1 asks Write 1 (codes "a::4\nb::6\nc::y\n")
    ∷ 1 asks Write 1 (codes "a::low\nb::high\nc::\n")
    ∷ 1 asks Write 1 (codes "a::-07\nb::007\n")
    ∷ 2 asks Read 2 99
    ∷ []

abbrev pub answers : List Reply
answers =
    Ok Done
    ∷ Ok Done
    ∷ Ok (OpenedHandle 1)
    ∷ Ok (OpenedHandle 2)
    ∷ Ok (Data (codes "@gps\n"))
    ∷ Ok (Wrote 15)
    ∷ Ok (Wrote 15)
    ∷ Ok (Wrote 19)
    ∷ Ok (Wrote 14)
    ∷ Ok (Data (codes "@gps\na::4\nb::6\nc::y\n@gps\nc::\n@gps\na::-07\nb::007\n"))
    ∷ []

-- the machine answers the events so
abbrev pub ConditionsOfFilters : Type 0
ConditionsOfFilters = replies (start 1 256) events ≡ answers
