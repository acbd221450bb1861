-- The session that a script asks for, and the lines that are none of it. Own.
use Rattle.std.specs.Prelude.{◌≡◌, ℕ, ◌+◌, min, List, ◌∷◌, ◌++◌, length, Bool, true, false, ◌&&◌, ◌==◌, nat_le, Option, Some, None}
use Rattle.std.specs.List.{list_all}
use Rattle.pps_types.specs.declared.event.Event.{Event}
use Rattle.pps_types.specs.Device.{last_count}
use Rattle.pps_types.specs.Frame.{event_body, longest_body}
use Rattle.pps_types.specs.Text.{lines_of}
use Rattle.script_text.specs.ScriptLines.{line_of}
use Rattle.script_text.specs.declared.script_line.ScriptLine.{ScriptLine}
use Rattle.script_text.specs.declared.script_line.ScriptLine.TheVariants.{Nothing, Command}
use Rattle.script_text.specs.Script.{script_of}
use Rattle.pps_dispatch.specs.Sessions.{Conversation, are_of, unanswered}
use Rattle.pps_dispatch.specs.declared.session_fault.SessionFault.{SessionFault}
use Rattle.pps_dispatch.specs.declared.session_fault.SessionFault.TheVariants.{BadLine, OutOfMemory}

-- ---- what is asked for

-- the text is a script of these events, all of this connection
pub record Asks (connection : ℕ) (text : List ℕ) (events : List Event) : Type 0 where
  pub script : script_of false text ≡ record { events = events; bad = None }
  pub own : are_of connection events ≡ true

-- the session's messages are these events, and nothing of it is answered yet
pub record IsSessionOf (connection : ℕ) (text : List ℕ) (session : Conversation) : Type 0 where
  pub asks : Asks connection text session.events
  pub anew : session ≡ unanswered connection session.events

-- ---- bad lines

-- whether a line is one of the connection's session: it asks for nothing, or for something of that connection with a frame
abbrev pub is_own : ℕ → Option ScriptLine → Bool
is_own connection None = false
is_own connection (Some Nothing) = true
is_own connection (Some (Command event)) =
    event.conn == connection && nat_le (length (event_body event)) longest_body

-- the line of that number, counted from 1, is the first that is none
pub record IsFirstBad (connection : ℕ) (text : List ℕ) (number : ℕ) : Type 0 where
  pub before : List (List ℕ)
  pub line : List ℕ
  pub others : List (List ℕ)
  pub parts : lines_of text ≡ before ++ line ∷ others
  pub good : list_all (λ l. is_own connection (line_of l)) before ≡ true
  pub bad : is_own connection (line_of line) ≡ false
  pub counted : number ≡ length before + 1

-- the fault names the first bad line, as far as numbers go, or is want of memory
abbrev pub TellsFirstBad : ℕ → List ℕ → SessionFault → Type 0
TellsFirstBad connection text (BadLine line) = (number : ℕ) × IsFirstBad connection text number × (line ≡ min number last_count)
TellsFirstBad connection text OutOfMemory = Unit {0}
