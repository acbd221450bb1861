-- Letters of a mode that do not go together, paths that are none, options that are none, and options that do not go
-- with the path.
-- Made by tools/script_theorems from tests/cases/rows/bad_opens.script.
use Rattle.std.specs.Prelude.{◌≡◌, List, [], ◌∷◌, true, false, Ok, Err, codes}
use Rattle.pps_types.specs.declared.event.Event.{Event}
use Rattle.pps_types.specs.declared.event.Request.TheVariants.{Attach, Open as OpenRequest}
use Rattle.pps_types.specs.declared.outcome.Outcome.TheVariants.{Done}
use Rattle.pps_types.specs.declared.refusal.Refusal.TheVariants.{BadPath, BadOption, BadMode}
use Rattle.pps_types.specs.Outcome.{Reply}
use Rattle.pps_types.specs.Machine.{start}
use Rattle.pps_types.specs.Runs.{replies}
use Rattle.worked_rows.specs.Scripts.Words.{◌asks◌}

abbrev pub events : List Event
events =
    1 asks Attach
    ∷ 1 asks OpenRequest (record { r = true; w = false; c = false; t = true }) (codes "/gps")
    ∷ 1 asks OpenRequest (record { r = true; w = true; c = false; t = false }) (codes "/.all")
    ∷ 1 asks OpenRequest (record { r = true; w = false; c = false; t = false }) (codes "/a//b")
    ∷ 1 asks OpenRequest (record { r = true; w = false; c = false; t = false }) (codes "/.notify")
    ∷ 1 asks OpenRequest (record { r = true; w = false; c = false; t = false }) (codes "/gps?fast")
    ∷ 1 asks OpenRequest (record { r = true; w = false; c = false; t = false }) (codes "/gps?deltadir")
    ∷ 1 asks OpenRequest (record { r = true; w = false; c = false; t = false }) (codes "/gps?f=")
    ∷ 1 asks OpenRequest (record { r = true; w = false; c = false; t = false }) (codes "/gps?limit=0")
    ∷ 1 asks OpenRequest (record { r = true; w = false; c = false; t = false }) (codes "/.all?server")
    ∷ []

abbrev pub answers : List Reply
answers =
    Ok Done
    ∷ Err BadMode
    ∷ Err BadMode
    ∷ Err BadPath
    ∷ Err BadPath
    ∷ Err BadOption
    ∷ Err BadOption
    ∷ Err BadOption
    ∷ Err BadOption
    ∷ Err BadOption
    ∷ []

-- the machine answers the events so
abbrev pub BadOpens : Type 0
BadOpens = replies (start 1 256) events ≡ answers
