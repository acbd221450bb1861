-- Options may be empty or stand twice where they are words; a filter and a limit stand once. A comma behind a backslash
-- ends no option.
-- Made by tools/script_theorems from tests/cases/rows/options_of_opens.script.
use Rattle.std.specs.Prelude.{◌≡◌, List, [], ◌∷◌, true, false, Ok, Err, codes}
use Rattle.pps_types.specs.declared.event.Event.{Event}
use Rattle.pps_types.specs.declared.event.Request.TheVariants.{Attach, Open as OpenRequest, Read, Write}
use Rattle.pps_types.specs.declared.outcome.Outcome.TheVariants.{Done, Opened as OpenedHandle, Data, Wrote}
use Rattle.pps_types.specs.declared.refusal.Refusal.TheVariants.{BadPath, BadOption}
use Rattle.pps_types.specs.Outcome.{Reply}
use Rattle.pps_types.specs.Machine.{start}
use Rattle.pps_types.specs.Runs.{replies}
use Rattle.worked_rows.specs.Scripts.Words.{◌asks◌}

abbrev pub events : List Event
events =
    1 asks Attach
    ∷ 1 asks OpenRequest (record { r = true; w = true; c = true; t = false }) (codes "/gps?,delta,,delta,")
    ∷ 1 asks OpenRequest (record { r = true; w = false; c = false; t = false }) (codes "/gps?")
    ∷ 1 asks OpenRequest (record { r = true; w = false; c = false; t = false }) (codes "/gps?f=a,f=a")
    ∷ 1 asks OpenRequest (record { r = true; w = false; c = false; t = false }) (codes "/gps?limit=2,limit=2")
    ∷ 1 asks OpenRequest (record { r = true; w = false; c = false; t = false }) (codes "/.all?deltadir,delta")
    ∷ 1 asks OpenRequest (record { r = true; w = false; c = false; t = false }) (codes "/.all?deltadir,f=a")
    ∷ 1 asks OpenRequest (record { r = true; w = false; c = false; t = false }) (codes "/.all?deltadir,limit=2")
    ∷ 1 asks OpenRequest (record { r = true; w = false; c = false; t = false }) (codes "/gps?f=a=\\,delta")
    ∷ 1 asks Write 1 (codes "a::1\n")
    ∷ 1 asks Write 1 (codes "a::,delta\n")
    ∷ 1 asks Read 4 99
    ∷ 1 asks Read 1 99
    ∷ 1 asks OpenRequest (record { r = true; w = false; c = false; t = false }) (codes "/a//b?fast")
    ∷ 1 asks OpenRequest (record { r = true; w = true; c = false; t = false }) (codes "/.all?fast")
    ∷ []

abbrev pub answers : List Reply
answers =
    Ok Done
    ∷ Ok (OpenedHandle 1)
    ∷ Ok (OpenedHandle 2)
    ∷ Err BadOption
    ∷ Err BadOption
    ∷ Err BadOption
    ∷ Err BadOption
    ∷ Ok (OpenedHandle 3)
    ∷ Ok (OpenedHandle 4)
    ∷ Ok (Wrote 5)
    ∷ Ok (Wrote 10)
    ∷ Ok (Data (codes "@gps\na::,delta\n"))
    ∷ Ok (Data (codes "@gps\na::,delta\n"))
    ∷ Err BadPath
    ∷ Err BadOption
    ∷ []

-- the machine answers the events so
abbrev pub OptionsOfOpens : Type 0
OptionsOfOpens = replies (start 1 256) events ≡ answers
