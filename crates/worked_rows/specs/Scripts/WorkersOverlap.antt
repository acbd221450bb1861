-- Two sessions that only attach.
-- Made by tools/script_theorems from tests/cases/rows/workers_overlap.script.
use Rattle.std.specs.Prelude.{◌≡◌, List, [], ◌∷◌, Ok}
use Rattle.pps_types.specs.declared.event.Event.{Event}
use Rattle.pps_types.specs.declared.event.Request.TheVariants.{Attach}
use Rattle.pps_types.specs.declared.outcome.Outcome.TheVariants.{Done}
use Rattle.pps_types.specs.Outcome.{Reply}
use Rattle.pps_types.specs.Machine.{start}
use Rattle.pps_types.specs.Runs.{replies}
use Rattle.worked_rows.specs.Scripts.Words.{◌asks◌}

abbrev pub events : List Event
events =
    1 asks Attach
    ∷ 2 asks Attach
    ∷ []

abbrev pub answers : List Reply
answers =
    Ok Done
    ∷ Ok Done
    ∷ []

-- the machine answers the events so
abbrev pub WorkersOverlap : Type 0
WorkersOverlap = replies (start 1 256) events ≡ answers
