-- What an Unlink removes.
use Rattle.std.specs.Prelude.{List, [], ◌∷◌, IfSome}
use Rattle.std.specs.List.{flat_map}
use Rattle.pps_types.specs.Plan.{Move, RemovesDirectory}
use Rattle.pps_types.specs.WellFormed.{directory_numbered}
use Rattle.name_table.specs.Listed.{IsBare}
use Rattle.service_state.specs.Beginning.{moves_of, AreReady}
use Rattle.service_state.specs.Tables.{Tabled, content_in}
use Rattle.path_requests.specs.declared.unlinking.Unlinked.{Unlinked}
use Rattle.path_requests.specs.declared.unlinking.Unlinked.TheVariants.{Object, Directory}

-- what it changes
abbrev pub moves_in : Unlinked → List Move
moves_in (Object beginning) = flat_map moves_of beginning.items
moves_in (Directory number) = RemovesDirectory number ∷ []

-- it can be carried out
abbrev pub IsReady : Unlinked → Tabled → Type 0
IsReady (Object beginning) t = AreReady beginning.items t
IsReady (Directory number) t = IfSome (directory_numbered (content_in t) number) (IsBare (content_in t))
