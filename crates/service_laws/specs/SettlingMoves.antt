-- What follows from moves for handles that they wake, by the moves' records and by what stood before. Own.
use Rattle.std.specs.Prelude.{List, [], ◌∷◌, ◌++◌}
use Rattle.pps_types.specs.History.{Entry}
use Rattle.pps_types.specs.Reading.{OpenHandle}
use Rattle.pps_types.specs.Rests.{Progress}
use Rattle.pps_types.specs.Content.{Content, target_is_dead, target_members}
use Rattle.pps_types.specs.Plan.{Move, apply_all_seen}
use Rattle.pps_types.specs.SettlingReplies.{pulse_and_reply}
use Rattle.service_laws.specs.Told.{entries_told}
use Rattle.service_laws.specs.SettlingTargets.{target_members_after, target_is_dead_after}

-- its pulse and its late reply, by the content in which the target is looked up
abbrev pub follows_in : Content → List Entry → OpenHandle Progress → List Move
follows_in c es handle = pulse_and_reply handle es (target_is_dead c handle) (target_members c handle)

-- All that follows from moves for a handle that they wake, by what stood before them.
abbrev pub follows : Content → List Move → OpenHandle Progress → List Move
follows c ms handle = pulse_and_reply handle (entries_told ms) (target_is_dead_after c ms handle) (target_members_after c ms handle)

-- what follows for each of the handles, worked out where all before it was carried out
abbrev pub follows_in_turn : Content → List Entry → List (OpenHandle Progress) → List Move
follows_in_turn c es [] = []
follows_in_turn c es (handle ∷ handles) = follows_in c es handle ++ follows_in_turn (apply_all_seen (follows_in c es handle) c) es handles
