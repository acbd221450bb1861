-- What holds of names at all times.
use Rattle.std.specs.Prelude.{◌≡◌, ℕ, false, List, Some}
use Rattle.std.specs.List.{AllByRecursion}
use Rattle.std.specs.FinMap.{get}
use Rattle.pps_types.specs.Bytes.{is_empty}
use Rattle.pps_types.specs.Names.{Map, Path, last_name}
use Rattle.pps_types.specs.Content.{Directory, Content, at, parent_number}
use Rattle.pps_types.specs.WellFormed.{AreInOrder, AreTree}
use Rattle.number_table.specs.Numbered.{Entry, AllTell}
use Rattle.name_table.specs.Standing.{Placed, standing_by, content_of}

-- The path is the object's: it leads through its directory to its name, and is not the root's.
pub record HasPath (c : Content) (x : Placed) : Type 0 where
  pub above : parent_number c x.path ≡ Some x.object.directory
  pub name : x.object.name ≡ last_name x.path
  pub below_root : is_empty x.path ≡ false

-- order: numbers rise. tree: directories and objects form a tree. paths: each object keeps its path.
-- names: the map leads to what stands at each path.
pub record IsNamed (map : Map) (objects : List (Entry Placed)) (next_object : ℕ) (directories : List (Entry Directory)) (next_directory : ℕ) : Type 0 where
  pub order : AreInOrder (content_of (standing_by objects next_object directories next_directory))
  pub tree : AreTree (content_of (standing_by objects next_object directories next_directory))
  pub paths : AllByRecursion (λ e. HasPath (content_of (standing_by objects next_object directories next_directory)) e.value) objects
  pub names : (path : Path) → get map path ≡ at (content_of (standing_by objects next_object directories next_directory)) path
  pub objects_told : AllTell (λ (x : Placed). x.object.number) objects
  pub directories_told : AllTell (λ (d : Directory). d.number) directories
