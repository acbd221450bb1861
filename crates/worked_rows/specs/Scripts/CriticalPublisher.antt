-- When a critical publisher detaches, the object's nonpersistent attributes are gone, and a subscriber is told so
-- whatever its filter asks; a subscriber to names is not.
-- Made by tools/script_theorems from tests/cases/rows/critical_publisher.script.
use Rattle.std.specs.Prelude.{◌≡◌, List, [], ◌∷◌, true, false, Ok, codes}
use Rattle.pps_types.specs.declared.event.Event.{Event}
use Rattle.pps_types.specs.declared.event.Request.TheVariants.{Attach, Detach, Open as OpenRequest, Read, Write}
use Rattle.pps_types.specs.declared.outcome.Outcome.TheVariants.{Done, Opened as OpenedHandle, Data, Wrote}
use Rattle.pps_types.specs.Outcome.{Reply}
use Rattle.pps_types.specs.Machine.{start}
use Rattle.pps_types.specs.Runs.{replies}
use Rattle.worked_rows.specs.Scripts.Words.{◌asks◌}

abbrev pub events : List Event
events =
    1 asks Attach
    ∷ 2 asks Attach
    ∷ 3 asks Attach
    ∷ 1 asks OpenRequest (record { r = true; w = true; c = true; t = false }) (codes "/gps?critical")
    ∷ 1 asks Write 1 (codes "[n]a::1\nb::2\n")
    ∷ 2 asks OpenRequest (record { r = true; w = false; c = false; t = false }) (codes "/gps?delta,f=zz")
    ∷ 2 asks Read 2 99
    ∷ 3 asks OpenRequest (record { r = true; w = false; c = false; t = false }) (codes "/.all?deltadir")
    ∷ 3 asks Read 3 99
    ∷ 1 asks Detach
    ∷ 2 asks Read 2 99
    ∷ 3 asks Read 3 99
    ∷ 3 asks OpenRequest (record { r = true; w = false; c = false; t = false }) (codes "/gps")
    ∷ 3 asks Read 4 99
    ∷ []

abbrev pub answers : List Reply
answers =
    Ok Done
    ∷ Ok Done
    ∷ Ok Done
    ∷ Ok (OpenedHandle 1)
    ∷ Ok (Wrote 13)
    ∷ Ok (OpenedHandle 2)
    ∷ Ok (Data (codes "@gps\n"))
    ∷ Ok (OpenedHandle 3)
    ∷ Ok (Data (codes "@gps\n"))
    ∷ Ok Done
    ∷ Ok (Data (codes "*@gps\n"))
    ∷ Ok (Data [])
    ∷ Ok (OpenedHandle 4)
    ∷ Ok (Data (codes "@gps\nb::2\n"))
    ∷ []

-- the machine answers the events so
abbrev pub CriticalPublisher : Type 0
CriticalPublisher = replies (start 1 256) events ≡ answers
