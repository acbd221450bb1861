-- Three sessions whose answers are the same in every order.
-- Made by tools/script_theorems from tests/cases/rows/shared_run_queue.script.
use Rattle.std.specs.Prelude.{◌≡◌, List, [], ◌∷◌, Ok, codes}
use Rattle.pps_types.specs.declared.event.Event.{Event}
use Rattle.pps_types.specs.declared.event.Request.TheVariants.{Attach, List as ListRequest}
use Rattle.pps_types.specs.declared.outcome.Outcome.TheVariants.{Done, Data}
use Rattle.pps_types.specs.Outcome.{Reply}
use Rattle.pps_types.specs.Machine.{start}
use Rattle.pps_types.specs.Runs.{replies}
use Rattle.worked_rows.specs.Scripts.Words.{◌asks◌}

abbrev pub events : List Event
events =
    1 asks Attach
    ∷ 2 asks Attach
    ∷ 3 asks Attach
    ∷ 2 asks ListRequest (codes "/")
    ∷ 3 asks ListRequest (codes "/")
    ∷ []

abbrev pub answers : List Reply
answers =
    Ok Done
    ∷ Ok Done
    ∷ Ok Done
    ∷ Ok (Data [])
    ∷ Ok (Data [])
    ∷ []

-- the machine answers the events so
abbrev pub SharedRunQueue : Type 0
SharedRunQueue = replies (start 1 256) events ≡ answers
