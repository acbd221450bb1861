-- What a line of a script says.
use Rattle.std.specs.Prelude.{ℕ, List, [], ◌∷◌, Bool, true, false, not, ◌&&◌, ◌||◌, ◌==◌, if◌then◌else◌, Option, Some, None, unwrap_or, option_map, option_and_then, codes}
use Rattle.pps_types.specs.declared.event.Mode.{Mode}
use Rattle.pps_types.specs.declared.event.Action.{Action}
use Rattle.pps_types.specs.declared.event.Action.TheVariants.{Poll, Pollarm, Tranarm}
use Rattle.pps_types.specs.declared.event.Request.{Request}
use Rattle.pps_types.specs.declared.event.Request.TheVariants as asks
use Rattle.pps_types.specs.declared.event.Event.{Event}
use Rattle.pps_types.specs.Bytes.{same, is_empty, starts_with, number_up_to, split_at_first}
use Rattle.script_text.specs.declared.script_line.ScriptLine.{ScriptLine}
use Rattle.script_text.specs.declared.script_line.ScriptLine.TheVariants.{Nothing, Command}
use Rattle.script_text.specs.declared.commands.Word.{Word}
use Rattle.script_text.specs.declared.commands.Word.TheVariants as words
use Rattle.script_text.specs.Escapes.{unescaped}

infixl 10 ◌>>=◌
-- the next step, where this one succeeded
abbrev pub ◌>>=◌ : {A B : Type 0} → Option A → (A → Option B) → Option B
o >>= f = option_and_then f o

-- ---- words

-- what stands before the first space, and what stands behind it
abbrev pub first_word : List ℕ → Option (List ℕ × List ℕ)
first_word text = split_at_first 32 text

-- without a space everything stands before it
abbrev pub word_and_rest : List ℕ → List ℕ × List ℕ
word_and_rest text = unwrap_or (first_word text) (text, [])

-- a number up to that size in decimal, without leading zeros
unfoldable pub number_to : ℕ → List ℕ → Option ℕ
number_to most word = if same word (codes "0") then Some 0 else number_up_to 10 most word

-- the number that the first word spells, and what comes after that word and its space
abbrev pub number_word : ℕ → List ℕ → Option (ℕ × List ℕ)
number_word most text = first_word text >>= (λ parts. option_map (λ number. (number, parts.1)) (number_to most parts.0))

-- the number of a connection
abbrev pub conn_of : List ℕ → Option ℕ
conn_of word = number_to 65535 word

-- a handle, a size or a value
abbrev pub field_of : List ℕ → Option ℕ
field_of word = number_to 4294967295 word

abbrev pub code_of : List ℕ → Option ℕ
code_of word = number_to 255 word

abbrev pub action_of : List ℕ → Option Action
action_of word =
    if same word (codes "poll") then Some Poll else
    if same word (codes "pollarm") then Some Pollarm else
    if same word (codes "tranarm") then Some Tranarm else None

-- whether a letter stands first, and what stands behind it
abbrev pub letter : ℕ → List ℕ → Bool × List ℕ
letter c [] = (false, [])
letter c (b ∷ bs) = if b == c then (true, bs) else (false, b ∷ bs)

-- one or more of `r`, `w`, `c` and `t`, in this order
abbrev pub mode_of : List ℕ → Option Mode
mode_of word =
    let r = letter 114 word in
    let w = letter 119 r.1 in
    let c = letter 99 w.1 in
    let t = letter 116 c.1 in
    if not (is_empty word) && is_empty t.1 then Some (record { r = r.0; w = w.0; c = c.0; t = t.0 }) else None

-- ---- commands

-- a mode, and the text of an open
abbrev pub open_request : List ℕ → Option Request
open_request text = do
  parts ← first_word text
  mode ← mode_of parts.0
  Some (asks.Open mode parts.1)

-- a handle and a size
abbrev pub read_request : List ℕ → Option Request
read_request text = do
  parts ← first_word text
  handle ← field_of parts.0
  size ← field_of parts.1
  Some (asks.Read handle size)

-- a handle, and bytes, if there are any
abbrev pub handle_and_rest : List ℕ → Option (ℕ × List ℕ)
handle_and_rest text = option_map (λ handle. (handle, (word_and_rest text).1)) (field_of (word_and_rest text).0)

abbrev pub write_request : List ℕ → Option Request
write_request text = handle_and_rest text >>= (λ parts. option_map (asks.Write parts.0) (unescaped parts.1))

abbrev pub close_request : List ℕ → Option Request
close_request text = option_map asks.Close (field_of text)

-- a handle, an action, a code and a value
abbrev pub notify_request : List ℕ → Option Request
notify_request text = do
  first ← first_word text
  handle ← field_of first.0
  second ← first_word first.1
  action ← action_of second.0
  third ← first_word second.1
  code ← code_of third.0
  value ← field_of third.1
  Some (asks.Notify handle action code value)

abbrev pub word_of : List ℕ → Option Word
word_of word =
    if same word (codes "open") then Some words.Open else
    if same word (codes "read") then Some words.Read else
    if same word (codes "write") then Some words.Write else
    if same word (codes "close") then Some words.Close else
    if same word (codes "unlink") then Some words.Unlink else
    if same word (codes "mkdir") then Some words.Mkdir else
    if same word (codes "list") then Some words.List else
    if same word (codes "notify") then Some words.Notify else None

-- a path
abbrev pub path_request : Word → List ℕ → Option Request
path_request words.Unlink path = Some (asks.Unlink path)
path_request words.Mkdir path = Some (asks.Mkdir path)
path_request _ path = Some (asks.List path)

-- a command, and what stands behind its space
abbrev pub request_with : Word → List ℕ → Option Request
request_with words.Open text = open_request text
request_with words.Read text = read_request text
request_with words.Write text = write_request text
request_with words.Close text = close_request text
request_with words.Unlink path = Some (asks.Unlink path)
request_with words.Mkdir path = Some (asks.Mkdir path)
request_with words.List path = Some (asks.List path)
request_with words.Notify text = notify_request text

-- a command that nothing stands behind
abbrev pub request_alone : List ℕ → Option Request
request_alone word =
    if same word (codes "attach") then Some asks.Attach else
    if same word (codes "detach") then Some asks.Detach else
    if same word (codes "receive") then Some asks.Receive else None

abbrev pub request_in : List ℕ → Option (List ℕ × List ℕ) → Option Request
request_in text None = request_alone text
request_in text (Some parts) = word_of parts.0 >>= (λ word. request_with word parts.1)

-- what is asked for behind the connection
abbrev pub request_of : List ℕ → Option Request
request_of text = request_in text (first_word text)

-- what a connection asks for
abbrev pub asked : ℕ → Option Request → Option Event
asked conn request = option_map (λ r. record { conn = conn; request = r }) request

-- ---- lines

-- a connection, a space and what is asked for
abbrev pub command : List ℕ → Option Event
command line = do
  parts ← first_word line
  conn ← conn_of parts.0
  request ← request_of parts.1
  Some (record { conn = conn; request = request })

-- an empty line and a comment say nothing; none where a line is bad
abbrev pub line_of : List ℕ → Option ScriptLine
line_of line = if is_empty line || starts_with 35 line then Some Nothing else option_map Command (command line)
