-- The attributes of an object, as they are kept by their names.
use Rattle.std.specs.Prelude.{ℕ, ◌-◌, Bool, List, length, vec_capacity}
use Rattle.std.specs.List.{IsDistinct}
use Rattle.std.specs.Map.{keys_of}
use Rattle.indexmap.specs.IndexMap.{spare}
use Rattle.pps_types.specs.AttributeContent.{Content}
use Rattle.pps_types.specs.Bytes.{same}
use Rattle.object_state.specs.declared.attributes.AttributesRef.{AttributesRef}
use Rattle.object_state.specs.declared.attributes.AttributesRef.TheVariants.{Few as FewLent, Many as ManyLent}
use Rattle.object_state.specs.declared.attributes.Form.{Form}
use Rattle.object_state.specs.declared.attributes.Form.TheVariants.{Few, Many}

-- entries: each name with what its attribute has, in the order in which they were created
-- room: for so many more there is memory
pub record Kept : Type 0 where
  pub entries : List (List ℕ × Content)
  pub room : ℕ

abbrev pub kept_in : Form → Kept
kept_in (Few entries) = record { entries = entries.items; room = vec_capacity entries - length entries.items }
kept_in (Many index) = record { entries = index.value.entries; room = spare index.value }

abbrev pub entries_in : AttributesRef → List (List ℕ × Content)
entries_in (FewLent entries) = entries.now
entries_in (ManyLent index) = index.now.entries

-- the attribute has this name
abbrev pub has_name : List ℕ → List ℕ × Content → Bool
has_name name entry = same name entry.0

-- no two attributes have the same name
abbrev pub HaveOwnNames : List (List ℕ × Content) → Type 0
HaveOwnNames entries = IsDistinct same (keys_of entries)
