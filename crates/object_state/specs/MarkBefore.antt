-- What is asked of an attribute's mark before a line of a write takes effect.
use Rattle.std.specs.Prelude.{◌≡◌, ℕ, List, Bool, false, not}
use mathlib.Core.Bool.{beq}
use Rattle.object_state.specs.Kept.{Kept}
use Rattle.pps_types.specs.declared.line.Line.{Line}
use Rattle.pps_types.specs.declared.line.Line.TheVariants.{Set, Del}
use Rattle.pps_types.specs.declared.line.WriteLine.{WriteLine}
use Rattle.pps_types.specs.declared.line.WriteLine.TheVariants.{Set as WriteSet, Del as WriteDel}
use Rattle.pps_types.specs.History.{Attribute, apply_line, resolved}
use Rattle.object_state.specs.Effect.{noted_in, ForetellsMarks}
use Rattle.object_state.specs.Entries.{attributes_in}
use Rattle.object_state.specs.Notes.{is_marked_then}

-- Whether the attribute that a line names is by then there and nonpersistent; nobody asks it of a last line that deletes.
abbrev pub IsMarkBefore : List (List ℕ × Bool) → Kept → Bool → WriteLine → Bool → Type 0
IsMarkBefore notes m is_last (WriteSet name enc value mark) n = n ≡ is_marked_then notes m name
IsMarkBefore notes m is_last (WriteDel name) n = is_last ≡ false → n ≡ is_marked_then notes m name

-- whether a line changes the mark that its attribute had
abbrev pub changes_mark : Bool → Line → Bool
changes_mark before (Set name enc value n) = not (beq n before)
changes_mark before (Del name) = before

-- this is what a line of a write comes to, whatever attributes the notes and the map foretell
abbrev pub Resolves : List (List ℕ × Bool) → Kept → WriteLine → Line → Type 0
Resolves notes m line made = (after : List Attribute) → ForetellsMarks (noted_in notes) (attributes_in m) after → made ≡ resolved after line

-- what they foretell they foretell after this line too
abbrev pub StaysForetold : List (List ℕ × Bool) → Kept → Line → Type 0
StaysForetold notes m line =
    (after : List Attribute) → ForetellsMarks (noted_in notes) (attributes_in m) after → ForetellsMarks (noted_in notes) (attributes_in m) (apply_line after line)
