-- Commands are read from their lines.
use Rattle.std.proofs.Common.{◌≡◌, ℕ, ◌<◌, ◌^◌, Bool, true, false, eqb, List, [], ◌∷◌, ◌++◌, length, Some, refl, ap, ◌∙◌, arith, append_assoc}
use Rattle.std.specs.Prelude.{◌||◌, option_map, codes, All}
use Rattle.std.specs.List.{list_all}
use Rattle.std.specs.Fmt.{decimal}
use Rattle.std.proofs.lemmas.Bool.Decides.{nat_tests}
use Rattle.std.proofs.lemmas.Fmt.{decimal_nonempty}
use Rattle.pps_types.specs.declared.event.Mode.{Mode}
use Rattle.pps_types.specs.declared.event.Action.{Action}
use Rattle.pps_types.specs.declared.event.Action.TheVariants.{Poll, Pollarm, Tranarm}
use Rattle.pps_types.specs.declared.event.Request.{Request}
use Rattle.pps_types.specs.declared.event.Request.TheVariants as asks
use Rattle.pps_types.specs.declared.event.Event.{Event}
use Rattle.pps_types.specs.Bytes.{is_digit, is_empty, starts_with, split_at_first}
use Rattle.pps_types.specs.Frame.{IsEvent, FitsFields}
use Rattle.script_text.specs.declared.script_line.ScriptLine.TheVariants.{Command}
use Rattle.script_text.specs.Escapes.{escaped}
use Rattle.script_text.specs.ScriptLines.{field_of, code_of, action_of, conn_of, open_request, read_request, write_request, notify_request, request_of, command, line_of}
use Rattle.script_text.specs.Spelled.{letters, action_word, request_words, command_line, HasSpelling}
use Rattle.pps_types.proofs.Decimals.{decimal-digits}
use Rattle.script_text.proofs.Decimals.{number-decimal}
use Rattle.script_text.proofs.RoundTrip.{unescaped-escaped}

-- ---- words

-- digits end before a space
pub first_word-digits : (ds rest : List ℕ) → list_all is_digit ds ≡ true → split_at_first 32 (ds ++ 32 ∷ rest) ≡ Some (ds, rest)
first_word-digits [] rest digits = refl
first_word-digits (d ∷ ds) rest digits =
    let other : eqb d 32 ≡ false = grind (arith, nat_tests) in
    let more : list_all is_digit ds ≡ true = grind (arith, nat_tests) in
    rw (other, first_word-digits ds rest more)

pub first_word-decimal : (n : ℕ) (rest : List ℕ) → n < 2 ^ 32 → split_at_first 32 (decimal n ++ codes " " ++ rest) ≡ Some (decimal n, rest)
first_word-decimal n rest small = rw append_assoc (first_word-digits (decimal n) rest (decimal-digits n (omega arith)))

pub field-decimal : (n : ℕ) → n < 2 ^ 32 → field_of (decimal n) ≡ Some n
field-decimal n small = number-decimal 4294967295 n (omega arith) (omega arith)

-- ---- requests

read-open : (r w c t : Bool) (text : List ℕ) → (r || w || c || t) ≡ true
    → let mode : Mode = record { r = r; w = w; c = c; t = t } in
    open_request (letters mode ++ codes " " ++ text) ≡ Some (asks.Open mode text)
read-open true true true true text some = refl
read-open true true true false text some = refl
read-open true true false true text some = refl
read-open true true false false text some = refl
read-open true false true true text some = refl
read-open true false true false text some = refl
read-open true false false true text some = refl
read-open true false false false text some = refl
read-open false true true true text some = refl
read-open false true true false text some = refl
read-open false true false true text some = refl
read-open false true false false text some = refl
read-open false false true true text some = refl
read-open false false true false text some = refl
read-open false false false true text some = refl
read-open false false false false text some = absurd (cc)

read-read : (handle size : ℕ) → handle < 2 ^ 32 → size < 2 ^ 32 → read_request (decimal handle ++ codes " " ++ decimal size) ≡ Some (asks.Read handle size)
read-read handle size small_handle small_size =
    rw (first_word-decimal handle (decimal size) small_handle, field-decimal handle small_handle, field-decimal size small_size) refl

read-write : (handle : ℕ) (bytes : List ℕ) → handle < 2 ^ 32 → All (λ b. b < 256) bytes → write_request (decimal handle ++ codes " " ++ escaped bytes) ≡ Some (asks.Write handle bytes)
read-write handle bytes small are_bytes =
    rw (first_word-decimal handle (escaped bytes) small, field-decimal handle small, unescaped-escaped bytes are_bytes) refl

first_word-action : (action : Action) (rest : List ℕ) → split_at_first 32 (action_word action ++ (codes " " ++ rest)) ≡ Some (action_word action, rest)
first_word-action Poll rest = refl
first_word-action Pollarm rest = refl
first_word-action Tranarm rest = refl

action_of-word : (action : Action) → action_of (action_word action) ≡ Some action
action_of-word Poll = refl
action_of-word Pollarm = refl
action_of-word Tranarm = refl

read-notify : (handle : ℕ) (action : Action) (code value : ℕ) → handle < 2 ^ 32 → code < 256 → value < 2 ^ 32
    → notify_request (decimal handle ++ codes " " ++ action_word action ++ codes " " ++ decimal code ++ codes " " ++ decimal value) ≡ Some (asks.Notify handle action code value)
read-notify handle action code value small_handle small_code small_value =
    let last : List ℕ = decimal code ++ codes " " ++ decimal value in
    let regrouped : decimal handle ++ codes " " ++ action_word action ++ codes " " ++ decimal code ++ codes " " ++ decimal value ≡ decimal handle ++ codes " " ++ (action_word action ++ (codes " " ++ last)) = simp append_assoc in
    let of_code : code_of (decimal code) ≡ Some code = number-decimal 255 code (omega arith) (omega arith) in
    rw (
      regrouped,
      first_word-decimal handle (action_word action ++ (codes " " ++ last)) small_handle,
      field-decimal handle small_handle,
      first_word-action action last,
      action_of-word action,
      first_word-decimal code (decimal value) (omega arith),
      of_code,
      field-decimal value small_value,
    ) refl

request-read : (request : Request) → FitsFields request → HasSpelling request → request_of (request_words request) ≡ Some request
request-read asks.Attach fits spelled = refl
request-read asks.Detach fits spelled = refl
request-read asks.Receive fits spelled = refl
request-read (asks.Open mode text) fits spelled = read-open mode.r mode.w mode.c mode.t text spelled
request-read (asks.Read handle size) fits spelled = read-read handle size fits.0 fits.1
request-read (asks.Write handle bytes) fits spelled = read-write handle bytes fits spelled
request-read (asks.Close handle) fits spelled = ap (λ h. option_map asks.Close h) (field-decimal handle fits)
request-read (asks.Unlink path) fits spelled = refl
request-read (asks.Mkdir path) fits spelled = refl
request-read (asks.List path) fits spelled = refl
request-read (asks.Notify handle action code value) fits spelled = read-notify handle action code value fits.0 fits.1 fits.2

-- ---- lines

-- what begins with a digit is neither empty nor a comment
says-something : (ds rest : List ℕ) → list_all is_digit ds ≡ true → 0 < length ds → (is_empty (ds ++ rest) || starts_with 35 (ds ++ rest)) ≡ false
says-something [] rest digits some = absurd (omega arith)
says-something (d ∷ ds) rest digits some = grind (arith, nat_tests)

line_of-command : (line : List ℕ) → (is_empty line || starts_with 35 line) ≡ false → line_of line ≡ option_map Command (command line)
line_of-command line says = rw says refl

pub commands-read : (event : Event) → IsEvent event → HasSpelling event.request → line_of (command_line event) ≡ Some (Command event)
commands-read event fits spelled =
    let conn = event.conn in
    let words = request_words event.request in
    let digits = decimal-digits conn (omega (arith, fits.conn)) in
    let some = decimal_nonempty conn (omega (arith, fits.conn)) in
    let says : (is_empty (decimal conn ++ codes " " ++ words) || starts_with 35 (decimal conn ++ codes " " ++ words)) ≡ false =
    rw append_assoc (says-something (decimal conn) (codes " " ++ words) digits some) in
    let of_conn : conn_of (decimal conn) ≡ Some conn = number-decimal 65535 conn (omega arith) (omega (arith, fits.conn)) in
    line_of-command (command_line event) says
    ∙ rw (first_word-decimal conn words (omega (arith, fits.conn)), of_conn, request-read event.request fits.request spelled) refl
