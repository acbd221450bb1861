-- What an event's records leave of the target of a handle, and what follows for the handle by that.
use Rattle.std.specs.Prelude.{◌≡◌, ℕ, List, [], ◌∷◌, ◌++◌, Bool, not, ◌&&◌, ◌==◌, if◌then◌else◌, Option, Some, None, is_none, option_map, unwrap_or, fold, map, take, drop}
use Rattle.std.specs.Borrow.{Bor}
use Rattle.std.specs.Option.{option_map_or, option_or, option_copied}
use Rattle.std.specs.List.{filter_map, list_any}
use Rattle.pps_types.specs.declared.record.Kind.{Kind}
use Rattle.pps_types.specs.declared.record.Kind.TheVariants.{Created, Deleted}
use Rattle.pps_types.specs.Names.{name_cmp, insert_by}
use Rattle.pps_types.specs.History.{Attribute, Entry, after_kind, line_of}
use Rattle.pps_types.specs.Reading.{OpenHandle, Member, is_directory_kind}
use Rattle.pps_types.specs.Rests.{Progress}
use Rattle.pps_types.specs.Content.{Content, LiveObject, object_numbered, members, handle_numbered}
use Rattle.pps_types.specs.Plan.{Move}
use Rattle.pps_types.specs.SettlingReplies.{pulse_and_reply}
use Rattle.name_table.specs.Standing.{Placed, known_of}
use Rattle.pps_engine.specs.declared.settled_attributes.Attributes.{Attributes}
use Rattle.pps_engine.specs.declared.settled_attributes.Attributes.TheVariants.{Lent, Made}

-- ---- an object

abbrev pub attributes_in : Attributes → List Attribute
attributes_in (Lent object) = object.now.attributes
attributes_in (Made object) = object.attributes

-- a record of that kind leaves the second of the first
abbrev pub AreLeftBy : Kind → Attributes → Attributes → Type 0
AreLeftBy kind old left = attributes_in left ≡ after_kind (attributes_in old) kind

-- those of an object, if it is alive
abbrev pub state_in : Option Attributes → Option (List Attribute)
state_in state = option_map attributes_in state

-- the same as the names of a service lend it
abbrev pub state_known : Option (Bor Placed) → Option (List Attribute)
state_known known = option_map (λ (o : LiveObject). o.attributes) (option_map known_of (option_copied known))

-- the attributes that a record leaves of its object, if it is alive then
abbrev pub state_left : Kind → Option (List Attribute) → Option (List Attribute)
state_left Created state = option_or state (Some [])
state_left Deleted state = None
state_left kind state = option_map (λ attributes. after_kind attributes kind) state

-- and of the object of a number
abbrev pub state_by : ℕ → Option (List Attribute) → Entry → Option (List Attribute)
state_by number state e = if e.record_of.object == number then state_left e.record_of.kind state else state

-- the attributes of the object of a number, if it is alive
abbrev pub state_of : Content → ℕ → Option (List Attribute)
state_of c number = option_map (λ o. o.attributes) (object_numbered c number)

-- the same behind records
abbrev pub state_behind : Content → List Entry → ℕ → Option (List Attribute)
state_behind c es number = fold (state_by number) (state_of c number) es

-- ---- the members of a directory

-- an alive object, by what a late reply takes of it
pub record Row : Type 0 where
  pub number : ℕ
  pub name : List ℕ
  pub attributes : List Attribute

abbrev pub row_of : LiveObject → Row
row_of o = record { number = o.object.number; name = o.object.name; attributes = o.attributes }

abbrev pub row_member : Row → Member
row_member r = record { name = r.name; lines = map line_of r.attributes }

-- the object that a record creates
abbrev pub row_created : Entry → Row
row_created e = record { number = e.record_of.object; name = e.name; attributes = [] }

-- an object after a record of it, if it is alive then
abbrev pub row_left : Kind → Row → Option Row
row_left Deleted r = None
row_left kind r = Some (record r { attributes = after_kind r.attributes kind })

-- and after a record of it or of another
abbrev pub row_by : Entry → Row → Option Row
row_by e r = if e.record_of.object == r.number then row_left e.record_of.kind r else Some r

-- one more, in its place by byte order of names
abbrev pub with_row : Row → List Row → List Row
with_row r rows = insert_by name_cmp (λ r. r.name) r rows

-- one more, at that place
abbrev pub with_row_at : ℕ → Row → List Row → List Row
with_row_at place r rows = take place rows ++ r ∷ drop place rows

-- what a record of that kind leaves of the members of a directory
abbrev pub rows_left : Kind → ℕ → List Row → Entry → List Row
rows_left Created directory rows e = if e.directory == directory then with_row (row_created e) rows else rows
rows_left kind directory rows e = filter_map (row_by e) rows

abbrev pub rows_by : ℕ → List Row → Entry → List Row
rows_by directory rows e = rows_left e.record_of.kind directory rows e

-- the members of a directory
abbrev pub rows_of : Content → ℕ → List Row
rows_of c directory = map row_of (members c directory)

-- the same behind records
abbrev pub rows_behind : Content → List Entry → ℕ → List Row
rows_behind c es directory = fold (rows_by directory) (rows_of c directory) es

-- ---- a handle

-- its target behind records is a dead object
abbrev pub is_dead_behind : Content → List Entry → OpenHandle Progress → Bool
is_dead_behind c es handle = not (is_directory_kind handle.kind) && is_none (state_behind c es handle.target)

-- the members of its target behind them: an object is its own one member, a dead one too
abbrev pub members_behind : Content → List Entry → OpenHandle Progress → List Member
members_behind c es handle =
    if is_directory_kind handle.kind then map row_member (rows_behind c es handle.target)
    else record { name = handle.name; lines = map line_of (unwrap_or (state_behind c es handle.target) []) } ∷ []

-- what follows for it, where the records wake it
abbrev pub follows_behind : Content → List Entry → OpenHandle Progress → List Move
follows_behind c es handle = pulse_and_reply handle es (is_dead_behind c es handle) (members_behind c es handle)

-- what follows for the handle of a number, unless it closes
abbrev pub follows_numbered : Content → List Entry → List ℕ → ℕ → List Move
follows_numbered c es closing number = if list_any (λ n. n == number) closing then [] else option_map_or (follows_behind c es) (handle_numbered c number) []
