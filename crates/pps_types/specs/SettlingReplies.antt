-- What follows from records for a handle that they wake: its pulse and its late reply, by what stood before. Own.
use Rattle.std.specs.Prelude.{ℕ, List, [], ◌++◌, Bool, false, not, ◌||◌, if◌then◌else◌, filter, map}
use Rattle.std.specs.Option.{option_map_or}
use Rattle.pps_types.specs.History.{Entry}
use Rattle.pps_types.specs.Reading.{OpenHandle, style, is_full_style, visible, block, Member, Answer, whole_answer, owed_answer, everything_of}
use Rattle.pps_types.specs.Rests.{Progress}
use Rattle.pps_types.specs.Plan.{Move, fired, late_reply}
use Rattle.pps_types.specs.Owed.{is_past_limit}

-- those of the records that the handle sees
abbrev pub visible_to : OpenHandle Progress → List Entry → List Entry
visible_to handle es = filter (visible handle) es

-- its late reply is everything: where these records alone are more than its limit, and in full mode
abbrev pub gives_everything : OpenHandle Progress → List Entry → Bool
gives_everything handle es = is_past_limit handle (visible_to handle es) || is_full_style (style handle.kind)

-- The answer to its parked read: everything, or else the blocks of the records that it sees, of which there is one, as many as fit.
-- dead, members: its target, as it stands behind the records.
abbrev pub late_answer : OpenHandle Progress → List Entry → Bool → List Member → ℕ → Answer
late_answer handle es dead members size =
    if gives_everything handle es
    then whole_answer (everything_of handle.kind handle.options.filter (is_past_limit handle (visible_to handle es)) (not dead) members) size
    else owed_answer handle.options.wait (map (block handle) (visible_to handle es)) false size

-- what follows for it: its pulse, and then its late reply
abbrev pub pulse_and_reply : OpenHandle Progress → List Entry → Bool → List Member → List Move
pulse_and_reply handle es dead members =
    fired handle ++ option_map_or (λ size. late_reply handle (late_answer handle es dead members size)) handle.parked []
