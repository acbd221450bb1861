-- Records, the history, and what an object's records leave of it: its attributes in order, and whether it is alive.
-- QNX PPS guide, on changing attributes and on persistence; `critical` and its record are our own.
use Rattle.std.specs.Prelude.{ℕ, List, [], ◌∷◌, Bool, true, false, not, ◌==◌, if◌then◌else◌, fold, filter, map, length}
use Rattle.pps_types.specs.declared.line.Line.{Line}
use Rattle.pps_types.specs.declared.line.Line.TheVariants.{Set, Del}
use Rattle.pps_types.specs.declared.line.Mark.{Mark}
use Rattle.pps_types.specs.declared.line.Mark.TheVariants.{Keep, On, Off}
use Rattle.pps_types.specs.declared.line.WriteLine.{WriteLine}
use Rattle.pps_types.specs.declared.line.WriteLine.TheVariants.{Set as WriteSet, Del as WriteDel}
use Rattle.pps_types.specs.declared.record.Kind.{Kind}
use Rattle.pps_types.specs.declared.record.Kind.TheVariants.{Created, Change, Truncated, Dropped, Deleted}
use Rattle.pps_types.specs.declared.record.Record.{Record}
use Rattle.pps_types.specs.Bytes.{same}
use Rattle.pps_types.specs.Text.{print_lines}

-- n: it is nonpersistent
pub record Attribute : Type 0 where
  pub name : List ℕ
  pub enc : List ℕ
  pub value : List ℕ
  pub n : Bool

-- the line that sets it
abbrev pub line_of : Attribute → Line
line_of a = Set a.name a.enc a.value a.n

-- the bytes of the printed attributes
abbrev pub text_length : List Attribute → ℕ
text_length attributes = length (print_lines (map line_of attributes))

-- ---- lines take effect, one after the other

-- in the place of the attribute of that name, or else last
abbrev pub put : List Attribute → Attribute → List Attribute
put [] a = a ∷ []
put (b ∷ bs) a = if same a.name b.name then a ∷ bs else b ∷ put bs a

abbrev pub apply_line : List Attribute → Line → List Attribute
apply_line attributes (Set name enc value n) = put attributes (record { name = name; enc = enc; value = value; n = n })
apply_line attributes (Del name) = filter (λ a. not (same a.name name)) attributes

-- whether an attribute of that name is there and nonpersistent
abbrev pub is_marked : List ℕ → List Attribute → Bool
is_marked name [] = false
is_marked name (a ∷ attributes) = if same a.name name then a.n else is_marked name attributes

abbrev pub marked_by : Mark → Bool → Bool
marked_by Keep before = before
marked_by On before = true
marked_by Off before = false

-- the line that a line of a write comes to, whose attribute was nonpersistent before it, or was not
abbrev pub resolved_by : Bool → WriteLine → Line
resolved_by before (WriteSet name enc value mark) = Set name enc value (marked_by mark before)
resolved_by before (WriteDel name) = Del name

-- the line that a line of a write comes to where these attributes stand
abbrev pub resolved : List Attribute → WriteLine → Line
resolved attributes (WriteSet name enc value mark) = Set name enc value (marked_by mark (is_marked name attributes))
resolved attributes (WriteDel name) = Del name

-- each line where those before it took effect
abbrev pub resolve : List Attribute → List WriteLine → List Line
resolve attributes [] = []
resolve attributes (w ∷ ws) = resolved attributes w ∷ resolve (apply_line attributes (resolved attributes w)) ws

-- a line of a message of a server object, which is no attribute
abbrev pub message_line : WriteLine → Line
message_line (WriteSet name enc value mark) = Set name enc value (marked_by mark false)
message_line (WriteDel name) = Del name

-- ---- what the records leave

-- A record in the history, with the directory and the name of its object, which never change.
pub record Entry : Type 0 where
  pub directory : ℕ
  pub name : List ℕ
  pub record_of : Record

abbrev pub persistent : List Attribute → List Attribute
persistent attributes = filter (λ a. not a.n) attributes

-- the attributes after a record of their object; messages and notices change none
abbrev pub after_kind : List Attribute → Kind → List Attribute
after_kind attributes Created = []
after_kind attributes (Change lines) = fold apply_line attributes lines
after_kind attributes Truncated = []
after_kind attributes Dropped = persistent attributes
after_kind attributes Deleted = []
after_kind attributes _ = attributes

abbrev pub after_entry : ℕ → List Attribute → Entry → List Attribute
after_entry object attributes e = if e.record_of.object == object then after_kind attributes e.record_of.kind else attributes

-- an object's attributes, in order
abbrev pub state : ℕ → List Entry → List Attribute
state object history = fold (after_entry object) [] history

abbrev pub alive_after_kind : Bool → Kind → Bool
alive_after_kind was Created = true
alive_after_kind was Deleted = false
alive_after_kind was _ = was

abbrev pub alive_after : ℕ → Bool → Entry → Bool
alive_after object was e = if e.record_of.object == object then alive_after_kind was e.record_of.kind else was

-- created, and not deleted after that
abbrev pub is_alive : ℕ → List Entry → Bool
is_alive object history = fold (alive_after object) false history
