-- A listing, by what it lists.
use Rattle.std.specs.Prelude.{ℕ, List, [], ◌∷◌, ◌++◌}
use Rattle.pps_types.specs.declared.found.Found.{Found}
use Rattle.pps_types.specs.Names.{Name, is_directory}
use Rattle.name_table.specs.Listed.{suffix}

-- the line of what stands under a name
abbrev pub line_listed : Name × Found → List ℕ
line_listed m = m.0 ++ suffix (is_directory m.1) ++ (10 ∷ [])
