-- The laws of lines.
use Rattle.std.specs.Prelude.{◌≡◌, ◌<◌, ◌≤◌, ◌^◌, ℕ, List, true, Some, All}
use Rattle.std.specs.Fmt.{decimal}
use Rattle.pps_types.specs.declared.event.Event.{Event}
use Rattle.pps_types.specs.Frame.{IsEvent}
use Rattle.pps_types.specs.Outcome.{Reply}
use Rattle.script_text.specs.declared.script_line.ScriptLine.TheVariants.{Command}
use Rattle.script_text.specs.Answer.{line_words, answer_line, are_visible, FitsAnswer}
use Rattle.script_text.specs.Escapes.{escaped, unescaped}
use Rattle.script_text.specs.ScriptLines.{number_to, line_of}
use Rattle.script_text.specs.Spelled.{command_line, HasSpelling}

-- bytes that are escaped and unescaped again are the same bytes
abbrev pub EscapesAreRead : Type 0
EscapesAreRead = (bytes : List ℕ) → All (λ b. b < 256) bytes → unescaped (escaped bytes) ≡ Some bytes

-- a number in its range is read from its decimal spelling, and from nothing else
pub record NumbersAreDecimal : Type 0 where
  pub reads : (most n : ℕ) → most < 2 ^ 32 → n ≤ most → number_to most (decimal n) ≡ Some n
  pub only : (most n : ℕ) (word : List ℕ) → most < 2 ^ 32 → number_to most word ≡ Some n → (n ≤ most) × (word ≡ decimal n)

-- a command is read from its line
abbrev pub CommandsAreRead : Type 0
CommandsAreRead = (event : Event) → IsEvent event → HasSpelling event.request → line_of (command_line event) ≡ Some (Command event)

-- answers with the same line are the same answer to the same connection
abbrev pub AnswersAreTold : Type 0
AnswersAreTold =
    (conn other_conn : ℕ) (reply other : Reply) → conn < 2 ^ 16 → other_conn < 2 ^ 16 → FitsAnswer reply → FitsAnswer other
    → answer_line conn reply ≡ answer_line other_conn other → (conn ≡ other_conn) × (reply ≡ other)

-- an answer is one line: before its line feed stand visible bytes and spaces alone
abbrev pub AnswersAreLines : Type 0
AnswersAreLines = (conn : ℕ) (reply : Reply) → conn < 2 ^ 16 → FitsAnswer reply → are_visible (line_words conn reply) ≡ true
