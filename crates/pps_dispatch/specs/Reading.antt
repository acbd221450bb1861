-- What is done with one line of a session's script.
use Rattle.std.specs.Prelude.{◌≡◌, ◌≤◌, ℕ, List, [], ◌∷◌, ◌++◌, length, false, Option, Some, None}
use Rattle.pps_types.specs.declared.event.Event.{Event}
use Rattle.pps_types.specs.Frame.{event_body, longest_body}
use Rattle.script_text.specs.declared.script_line.ScriptLine.{ScriptLine}
use Rattle.script_text.specs.declared.script_line.ScriptLine.TheVariants.{Nothing, Command}
use Rattle.pps_dispatch.specs.declared.session_fault.SessionFault.{SessionFault}
use Rattle.pps_dispatch.specs.declared.session_fault.SessionFault.TheVariants.{BadLine, OutOfMemory}
use Rattle.pps_dispatch.specs.Scripts.{is_own}

-- what is asked for is added, if something is: it is of the connection, and has a frame
abbrev pub AddsLine : ℕ → Option ScriptLine → List Event → List Event → Type 0
AddsLine connection None old new = ⊥
AddsLine connection (Some Nothing) old new = new ≡ old
AddsLine connection (Some (Command event)) old new =
    (event.conn ≡ connection) × (length (event_body event) ≤ longest_body) × (new ≡ old ++ event ∷ [])

-- a line that is told to be bad is none of the session's, and its number is told
abbrev pub FailsLine : ℕ → Option ScriptLine → ℕ → SessionFault → Type 0
FailsLine connection said number (BadLine line) = (is_own connection said ≡ false) × (line ≡ number)
FailsLine connection said number OutOfMemory = Unit {0}
