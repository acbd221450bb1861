-- What an image saves of directories and objects, as they are lent.
use Rattle.std.specs.Prelude.{◌≡◌, List, [], not, map, filter}
use Rattle.pps_types.specs.Bytes.{is_empty}
use Rattle.pps_types.specs.History.{persistent}
use Rattle.pps_types.specs.Content.{Content, Directory}
use Rattle.pps_types.specs.Image.{SavedLine, Saved, SavedDirectory, SavedObject, saved, saved_line, is_kept}
use Rattle.pps_types.specs.WellFormed.{IsContent}
use Rattle.name_table.specs.Standing.{Named, Placed, known_of, standing_of, standing_in}
use Rattle.pps_engine.specs.declared.saved_entry.Lent.{Lent}
use Rattle.pps_engine.specs.declared.saved_entry.Lent.TheVariants.{Directory as LentDirectory, Object as LentObject}

-- the attributes of an object, and none of a directory
abbrev pub attributes_of : Saved → List SavedLine
attributes_of (SavedDirectory path) = []
attributes_of (SavedObject path lines) = lines

-- an object at its path, with its persistent attributes
abbrev pub saved_placed : Placed → Saved
saved_placed x = SavedObject x.path (map saved_line (persistent x.held.attributes))

abbrev pub saved_of : Lent → Saved
saved_of (LentDirectory d) = SavedDirectory d.now.path
saved_of (LentObject o) = saved_placed o.now

-- the directories but the root
abbrev pub saved_directories : List Directory → List Saved
saved_directories ds = map (λ d. SavedDirectory d.path) (filter (λ d. not (is_empty d.path)) ds)

-- the objects that are kept
abbrev pub saved_objects : List Placed → List Saved
saved_objects xs = map saved_placed (filter (λ x. is_kept (known_of x)) xs)

-- they are what an image saves of each service that has these names
abbrev pub AreSavedOf : Named → List Saved → Type 0
AreSavedOf names entries = (c : Content) → IsContent c → standing_in c ≡ standing_of names → entries ≡ saved c
