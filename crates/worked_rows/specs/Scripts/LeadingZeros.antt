-- Numbers of options and of headers have no leading zeros, and stay within their limits.
-- Made by tools/script_theorems from tests/cases/rows/leading_zeros.script.
use Rattle.std.specs.Prelude.{◌≡◌, List, [], ◌∷◌, true, false, Ok, Err, codes}
use Rattle.pps_types.specs.declared.event.Event.{Event}
use Rattle.pps_types.specs.declared.event.Request.TheVariants.{Attach, Open as OpenRequest, Write}
use Rattle.pps_types.specs.declared.outcome.Outcome.TheVariants.{Done, Opened as OpenedHandle, Wrote}
use Rattle.pps_types.specs.declared.refusal.Refusal.TheVariants.{BadOption, BadText}
use Rattle.pps_types.specs.Outcome.{Reply}
use Rattle.pps_types.specs.Machine.{start}
use Rattle.pps_types.specs.Runs.{replies}
use Rattle.worked_rows.specs.Scripts.Words.{◌asks◌}

abbrev pub events : List Event
events =
    1 asks Attach
    ∷ 2 asks Attach
    ∷ 1 asks OpenRequest (record { r = true; w = true; c = true; t = false }) (codes "/s?server,limit=007")
    ∷ 1 asks OpenRequest (record { r = true; w = true; c = true; t = false }) (codes "/s?server,limit=65536")
    ∷ 1 asks OpenRequest (record { r = true; w = true; c = true; t = false }) (codes "/s?server,limit=100000")
    ∷ 1 asks OpenRequest (record { r = true; w = true; c = true; t = false }) (codes "/s?server,limit=65535")
    ∷ 2 asks OpenRequest (record { r = true; w = true; c = false; t = false }) (codes "/s")
    ∷ 1 asks Write 1 (codes "@s.02\nr::1\n")
    ∷ 1 asks Write 1 (codes "@s.2\nr::1\n")
    ∷ []

abbrev pub answers : List Reply
answers =
    Ok Done
    ∷ Ok Done
    ∷ Err BadOption
    ∷ Err BadOption
    ∷ Err BadOption
    ∷ Ok (OpenedHandle 1)
    ∷ Ok (OpenedHandle 2)
    ∷ Err (BadText 1)
    ∷ Ok (Wrote 10)
    ∷ []

-- the machine answers the events so
abbrev pub LeadingZeros : Type 0
LeadingZeros = replies (start 1 256) events ≡ answers
