-- What a script asks for, and the lines that answer it. Own.
use Rattle.std.specs.Prelude.{ℕ, ◌+◌, ◌-◌, List, [], ◌∷◌, ◌++◌, Bool, true, false, if◌then◌else◌, Option, Some, None, Ok, option_map, length, take}
use Rattle.std.specs.List.{flat_map}
use Rattle.pps_types.specs.declared.event.Event.{Event}
use Rattle.pps_types.specs.declared.event.Request.{Request}
use Rattle.pps_types.specs.declared.event.Request.TheVariants.{Read}
use Rattle.pps_types.specs.declared.outcome.Outcome.TheVariants.{Data}
use Rattle.pps_types.specs.Outcome.{Reply}
use Rattle.pps_types.specs.Bytes.{pieces}
use Rattle.pps_types.specs.Text.{lines_of}
use Rattle.pps_types.specs.Runs.{Answered}
use Rattle.script_text.specs.ScriptLines.{line_of}
use Rattle.script_text.specs.declared.script_line.ScriptLine.{ScriptLine}
use Rattle.script_text.specs.declared.script_line.ScriptLine.TheVariants.{Nothing, Command}
use Rattle.script_text.specs.Answer.{answer_line}
use Rattle.script_text.specs.ShownLines.{shown_lines}

-- ---- what is asked for

-- the events of a script up to its first bad line, and that line's number, counted from 1
pub record Script : Type 0 where
  pub events : List Event
  pub bad : Option ℕ

-- the same lines, one line further down
abbrev pub one_down : Script → Script
one_down rest = record { events = rest.events; bad = option_map (λ n. n + 1) rest.bad }

-- a line, and the script of those after it: a bad one ends it, an empty one and a comment ask for nothing
abbrev pub with_line : Option ScriptLine → Script → Script
with_line None rest = record { events = []; bad = Some 1 }
with_line (Some Nothing) rest = one_down rest
with_line (Some (Command event)) rest = record { events = event ∷ rest.events; bad = (one_down rest).bad }

-- what is heard in a line: where a script goes on after bad lines, they ask for nothing
abbrev pub or_nothing : Bool → Option ScriptLine → Option ScriptLine
or_nothing false said = said
or_nothing true None = Some Nothing
or_nothing true (Some said) = Some said

abbrev pub heard : Bool → List ℕ → Option ScriptLine
heard patient line = or_nothing patient (line_of line)

-- the script of lines, which goes on after bad ones or does not
abbrev pub script : Bool → List (List ℕ) → Script
script patient [] = record { events = []; bad = None }
script patient (line ∷ lines) = with_line (heard patient line) (script patient lines)

abbrev pub script_of : Bool → List ℕ → Script
script_of patient text = script patient (lines_of text)

-- the lines of a text that may go on: those that end in a line feed
abbrev pub whole_lines : List ℕ → List (List ℕ)
whole_lines text = take (length (pieces 10 text) - 1) (pieces 10 text)

-- ---- what is answered

-- the values in the bytes that a read is answered at once
abbrev pub shown_for : Request → Reply → List ℕ
shown_for (Read handle size) (Ok (Data bytes)) = shown_lines bytes
shown_for _ _ = []

-- the answer's line, and the values in it where they are to be shown
abbrev pub printed : Bool → Event → Reply → List ℕ
printed show event reply = answer_line event.conn reply ++ (if show then shown_for event.request reply else [])

-- the lines of all answers
abbrev pub answers_of : Bool → List Answered → List ℕ
answers_of show answered = flat_map (λ x. printed show x.event x.reply) answered
