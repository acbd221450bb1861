-- The machines that the calls leave which restore an image. Own.
use Rattle.std.specs.Prelude.{◌≡◌, [], ◌∷◌}
use Rattle.pps_types.specs.declared.line.Line.{Line}
use Rattle.pps_types.specs.Names.{Path}
use Rattle.pps_types.specs.Content.{Content}
use Rattle.pps_types.specs.Plan.{Creates, MakesDirectory}
use Rattle.pps_types.specs.Machine.{Machine, content_of, apply_all}
use Rattle.pps_types.specs.Stands.{Stands}
use Rattle.pps_types.specs.Image.{saved, restored_object}
use Rattle.pps_types.specs.Restore.{line_moves}

-- with one more directory
abbrev pub with_directory : Path → Machine → Machine
with_directory path m = apply_all (MakesDirectory path ∷ []) m

-- with one more object, and the record that it was created
abbrev pub with_object : Path → Machine → Machine
with_object path m = apply_all (Creates (restored_object (content_of m) path) ∷ []) m

-- with one more record, of the object at the path: a change that sets an attribute
abbrev pub with_line : Path → Line → Machine → Machine
with_line path line m = apply_all (line_moves (content_of m) path line) m

-- for each machine that the old content represents, the new one represents the machine that is made of it
abbrev pub Becomes : (Machine → Machine) → Content → Content → Type 0
Becomes made old new = (m : Machine) → Stands old m → Stands new (made m)

-- an image of either has the same entries: directories, kept objects and their persistent attributes; and the same default limit
pub record AreSavedAlike (c d : Content) : Type 0 where
  pub entries : saved c ≡ saved d
  pub limit : c.default_limit ≡ d.default_limit
