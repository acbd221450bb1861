-- A connection attaches before anything else, once, under a number that there is, and may attach again after it has
-- detached.
-- Made by tools/script_theorems from tests/cases/rows/attach_and_detach.script.
use Rattle.std.specs.Prelude.{◌≡◌, List, [], ◌∷◌, Ok, Err, codes}
use Rattle.pps_types.specs.declared.event.Event.{Event}
use Rattle.pps_types.specs.declared.event.Request.TheVariants.{Attach, Detach, List as ListRequest}
use Rattle.pps_types.specs.declared.outcome.Outcome.TheVariants.{Done}
use Rattle.pps_types.specs.declared.refusal.Refusal.TheVariants.{NotAttached, AlreadyAttached, BadArgument}
use Rattle.pps_types.specs.Outcome.{Reply}
use Rattle.pps_types.specs.Machine.{start}
use Rattle.pps_types.specs.Runs.{replies}
use Rattle.worked_rows.specs.Scripts.Words.{◌asks◌}

abbrev pub events : List Event
events =
    5 asks ListRequest (codes "/")
    ∷ 1 asks Attach
    ∷ 1 asks Attach
    ∷ 2000 asks Attach
    ∷ 1 asks Detach
    ∷ 1 asks Attach
    ∷ []

abbrev pub answers : List Reply
answers =
    Err NotAttached
    ∷ Ok Done
    ∷ Err AlreadyAttached
    ∷ Err BadArgument
    ∷ Ok Done
    ∷ Ok Done
    ∷ []

-- the machine answers the events so
abbrev pub AttachAndDetach : Type 0
AttachAndDetach = replies (start 1 256) events ≡ answers
