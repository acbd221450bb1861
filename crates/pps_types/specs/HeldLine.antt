-- Lines as they are held: the text of a line once, and how long its name and its encoding are. Own.
use Rattle.std.specs.Prelude.{◌≡◌, ℕ, ◌+◌, List, [], ◌∷◌, ◌++◌, Bool, true, false, ◌&&◌, nat_le, if◌then◌else◌, Option, Some, None, length, take, drop, codes}
use Rattle.pps_types.specs.declared.line.Line.{Line}
use Rattle.pps_types.specs.declared.line.Line.TheVariants.{Set, Del}
use Rattle.pps_types.specs.declared.line.Mark.{Mark}
use Rattle.pps_types.specs.declared.line.Mark.TheVariants.{Keep, On, Off}
use Rattle.pps_types.specs.declared.line.WriteLine.{WriteLine}
use Rattle.pps_types.specs.declared.line.WriteLine.TheVariants.{Set as WriteSet, Del as WriteDel}

-- what its printing begins with: the bracket of a nonpersistent attribute, or the sign of a deletion
abbrev pub start_of : Line → List ℕ
start_of (Set name enc value n) = if n then codes "[n]" else []
start_of (Del name) = codes "-"

-- what its printing has between that and the line feed
abbrev pub text_of : Line → List ℕ
text_of (Set name enc value n) = name ++ codes ":" ++ enc ++ codes ":" ++ value
text_of (Del name) = name

-- The line of a text whose name and encoding are that long. It sets an attribute, which is nonpersistent if n is true; or
-- the text is the name that it deletes.
abbrev pub line_in : Option Bool → ℕ → ℕ → List ℕ → Line
line_in (Some n) name enc text = Set (take name text) (take enc (drop (name + 1) text)) (drop (name + enc + 2) text) n
line_in None name enc text = Del text

-- a name, an encoding and a value in one text, with colons between them
abbrev pub joined : List ℕ → List ℕ → List ℕ → List ℕ
joined name enc value = name ++ 58 ∷ (enc ++ 58 ∷ value)

-- a line, if it can be held: its name and its encoding have at most 255 bytes, or it deletes an attribute
abbrev pub held_from : Line → Option Line
held_from (Set name enc value n) = if nat_le (length name) 255 && nat_le (length enc) 255 then Some (Set name enc value n) else None
held_from (Del name) = Some (Del name)

-- the text is a name and an encoding that are that long, each with a colon after it, and a value
abbrev pub IsSetText : ℕ → ℕ → List ℕ → Type 0
IsSetText name enc text = text_of (line_in (Some false) name enc text) ≡ text

-- the line with that mark, if it sets an attribute
abbrev pub with_mark : Bool → Line → Line
with_mark n (Set name enc value before) = Set name enc value n
with_mark n (Del name) = Del name

-- the line of a write that comes to this line if its attribute was persistent, and has a bracket or none
abbrev pub written_as : Line → Bool → WriteLine
written_as (Set name enc value true) bracket = WriteSet name enc value On
written_as (Set name enc value false) true = WriteSet name enc value Off
written_as (Set name enc value false) false = WriteSet name enc value Keep
written_as (Del name) bracket = WriteDel name

-- its bracket or that it has none, if it sets an attribute
abbrev pub mark_of : WriteLine → Option Mark
mark_of (WriteSet name enc value mark) = Some mark
mark_of (WriteDel name) = None

-- the line of a write with that bracket, of a text whose name and encoding are that long
abbrev pub written_in : Mark → ℕ → ℕ → List ℕ → WriteLine
written_in mark name enc text = WriteSet (take name text) (take enc (drop (name + 1) text)) (drop (name + enc + 2) text) mark
