-- What a tree is seen as.
use Rattle.std.specs.Prelude.{◌≡◌, ◌<◌, ℕ, List, [], Bool, true, false, Option, Some, None, refl}
use Rattle.std.specs.Coded.{Coded, code_by, coded×, coded_ℕ, coded_bool, coded_list, coded_option}
use Rattle.std.specs.FinMap.{insert, remove, empty}
use Rattle.pps_types.specs.declared.found.Found.TheVariants.{Object as FoundObject, Directory as FoundDirectory}
use Rattle.pps_types.specs.declared.refusal.Refusal.{Refusal}
use Rattle.pps_types.specs.Names.{Name, Path, Map, last_name, add_refusal, mkdir_refusal, object_refusal, rmdir_refusal}
use Rattle.alloc_tree.specs.Path.{at, room_for}
use Rattle.alloc_tree.specs.Contents.{coded_map, coded_path}
use Rattle.alloc_tree.specs.declared.edit.Edit.{Edit}
use Rattle.alloc_tree.specs.declared.edit.Edit.TheVariants.{RemovesObject, ReplacesObject, RemovesDirectory}
use Rattle.alloc_tree.specs.declared.kind.NodeKind.{NodeKind}
use Rattle.alloc_tree.specs.declared.kind.NodeKind.TheVariants.{Object, Directory}

pub record Held : Type 0 where
  -- what stands at each path, the root at []
  pub map : Map
  -- what was made ready, and under which name
  pub ready : Option (NodeKind × Name)
  -- for how many more entries each directory has room
  pub rooms : List (Path × ℕ)

abbrev pub root_alone : Map
root_alone = insert empty [] (FoundDirectory 0)

-- the map with this object at the path
abbrev pub with_object : Map → Path → ℕ → Map
with_object map path id = insert map path (FoundObject id)

-- the map with this directory there
abbrev pub with_directory : Map → Path → ℕ → Map
with_directory map path id = insert map path (FoundDirectory id)

-- why nothing of that kind can be added
abbrev pub new_of : NodeKind → Map → Path → Option Refusal
new_of Object map path = add_refusal map path
new_of Directory map path = mkdir_refusal map path

-- why what stands there is not changed
abbrev pub edit_of : Edit → Map → Path → Option Refusal
edit_of RemovesObject map path = object_refusal map path
edit_of (ReplacesObject id) map path = object_refusal map path
edit_of RemovesDirectory map path = rmdir_refusal map path

-- what stands where after the change
abbrev pub edited : Edit → Map → Path → Map
edited RemovesObject map path = remove map path
edited (ReplacesObject id) map path = insert map path (FoundObject id)
edited RemovesDirectory map path = remove map path

-- The path was made ready for this: its name is kept, its directory has room, and nothing refuses it.
pub record IsReady (held : Held) (kind : NodeKind) (path : Path) : Type 0 where
  pub name : held.ready ≡ Some (kind, last_name path)
  pub room : 0 < room_for (at held.rooms) path
  pub free : new_of kind held.map path ≡ None

-- ---- codes

abbrev pub kind_part : NodeKind → Bool
kind_part Object = false
kind_part Directory = true

abbrev pub kind_from : Bool → NodeKind
kind_from false = Object
kind_from true = Directory

abbrev pub coded_kind : Coded NodeKind
coded_kind = code_by Bool coded_bool kind_part kind_from (elim [ Object ↦ refl | Directory ↦ refl ])

abbrev pub coded_held : Coded Held
coded_held =
    code_by (Map × (Option (NodeKind × Name) × List (Path × ℕ)))
    (coded× coded_map (coded× (coded_option (coded× coded_kind (coded_list coded_ℕ))) (coded_list (coded× coded_path coded_ℕ))))
    (λ h. (h.map, (h.ready, h.rooms))) (λ p. record { map = p.0; ready = p.1.0; rooms = p.1.1 }) (λ _. refl)
