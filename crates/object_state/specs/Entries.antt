-- The entries of the map that keeps an object's attributes, as attributes.
use Rattle.std.specs.Prelude.{ℕ, ◌+◌, List, Option, None, Some, not, if◌then◌else◌, filter, map, length, slice_get}
use Rattle.std.specs.Option.{option_map_or}
use Rattle.object_state.specs.Kept.{Kept}
use Rattle.pps_types.specs.Bytes.{same}
use Rattle.pps_types.specs.History.{Attribute, put}
use Rattle.pps_types.specs.AttributeContent.{Content}

abbrev pub attribute_of : List ℕ × Content → Attribute
attribute_of e = record { name = e.0; enc = e.1.enc; value = e.1.value; n = e.1.n }

abbrev pub attributes_of : List (List ℕ × Content) → List Attribute
attributes_of entries = map attribute_of entries

-- those of a map
abbrev pub attributes_in : Kept → List Attribute
attributes_in m = attributes_of m.entries

-- with one of this name and content, in the place of the one of that name or else last
abbrev pub with_named : List ℕ → Content → List Attribute → List Attribute
with_named name content attributes = put attributes (attribute_of (name, content))

-- without the one of this name
abbrev pub without_named : List ℕ → List Attribute → List Attribute
without_named name attributes = filter (λ (a : Attribute). not (same a.name name)) attributes

-- how long the printed line of this content is, under a name of that length
abbrev pub line_length : ℕ → Content → ℕ
line_length name content = (if content.n then 6 else 3) + name + length content.enc + length content.value

-- how long the printed line of the entry in that place is, where it is persistent
abbrev pub persistent_length : List (List ℕ × Content) → ℕ → Option ℕ
persistent_length entries place = option_map_or (λ (e : List ℕ × Content). if e.1.n then None else Some (line_length (length e.0) e.1)) (slice_get entries place) None
