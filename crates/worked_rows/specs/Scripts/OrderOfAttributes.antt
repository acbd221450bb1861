-- A changed attribute keeps its place and its mark; one that was deleted goes last when it is set again.
-- Made by tools/script_theorems from tests/cases/rows/order_of_attributes.script.
use Rattle.std.specs.Prelude.{◌≡◌, List, [], ◌∷◌, true, false, Ok, codes}
use Rattle.pps_types.specs.declared.event.Event.{Event}
use Rattle.pps_types.specs.declared.event.Request.TheVariants.{Attach, Open as OpenRequest, Read, Write}
use Rattle.pps_types.specs.declared.outcome.Outcome.TheVariants.{Done, Opened as OpenedHandle, Data, Wrote}
use Rattle.pps_types.specs.Outcome.{Reply}
use Rattle.pps_types.specs.Machine.{start}
use Rattle.pps_types.specs.Runs.{replies}
use Rattle.worked_rows.specs.Scripts.Words.{◌asks◌}

abbrev pub events : List Event
events =
    1 asks Attach
    ∷ 2 asks Attach
    ∷ 1 asks OpenRequest (record { r = true; w = true; c = true; t = false }) (codes "/gps")
    ∷ 1 asks Write 1 (codes "[n]a::1\nb::2\nc::3\n")
    ∷ 1 asks Write 1 (codes "a::4\n")
    ∷ 2 asks OpenRequest (record { r = true; w = false; c = false; t = false }) (codes "/gps")
    ∷ 2 asks Read 2 99
    ∷ 1 asks Write 1 (codes "-a\na::9\nb::7\n")
    ∷ 2 asks Read 2 99
    ∷ []

abbrev pub answers : List Reply
answers =
    Ok Done
    ∷ Ok Done
    ∷ Ok (OpenedHandle 1)
    ∷ Ok (Wrote 18)
    ∷ Ok (Wrote 5)
    ∷ Ok (OpenedHandle 2)
    ∷ Ok (Data (codes "@gps\n[n]a::4\nb::2\nc::3\n"))
    ∷ Ok (Wrote 13)
    ∷ Ok (Data (codes "@gps\nb::7\nc::3\na::9\n"))
    ∷ []

-- the machine answers the events so
abbrev pub OrderOfAttributes : Type 0
OrderOfAttributes = replies (start 1 256) events ≡ answers
