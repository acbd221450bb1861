-- Answers, read back from their lines.
use Rattle.std.proofs.Common.{◌≡◌, ℕ, ◌<◌, ◌^◌, true, false, List, [], ◌∷◌, ◌++◌, length, Option, Some, None, Result, Ok, Err, refl, sym, ap, ◌∙◌, arith, append_assoc}
use Rattle.std.specs.Prelude.{◌==◌, if◌then◌else◌, option_map, unwrap_or, codes}
use Rattle.std.specs.List.{list_all}
use Rattle.std.specs.Fmt.{decimal}
use Rattle.std.proofs.lemmas.Fmt.{decimal_digit}
use Rattle.std.proofs.lemmas.List.{append_cancel_right}
use Rattle.pps_types.specs.declared.outcome.Item.TheVariants.{Pulse, ReadDone}
use Rattle.pps_types.specs.declared.outcome.Outcome.TheVariants.{Done, Opened, Data, Wrote, Parked, Input, Item as Queued, Empty}
use Rattle.pps_types.specs.declared.refusal.Refusal.{Refusal}
use Rattle.pps_types.specs.declared.refusal.Refusal.TheVariants.{OutOfMemory, BadFrame, NotAttached, AlreadyAttached, BadPath, BadOption, NotFound, Exists, NotDirectory, IsDirectory, NotEmpty, Busy, BadHandle, BadMode, BadText, TooLarge, Gone, ReadPending, TooSmall, OutboxFull, Backlogged, NoClient, BadArgument, TableFull}
use Rattle.pps_types.specs.Bytes.{same, is_digit, is_empty}
use Rattle.pps_types.specs.Outcome.{Reply}
use Rattle.pps_types.specs.Refusal.{number_of, name_of, argument_of}
use Rattle.script_text.specs.Answer.{argument_word, read_words, answer_words, answer_line, FitsBytes, FitsRefusal, FitsRead, FitsAnswer}
use Rattle.script_text.specs.Escapes.{escaped, unescaped}
use Rattle.script_text.specs.ScriptLines.{◌>>=◌, first_word, word_and_rest, field_of, code_of, conn_of}
use Rattle.pps_types.proofs.Decimals.{decimal-digits}
use Rattle.script_text.proofs.Decimals.{number-decimal}
use Rattle.script_text.proofs.RoundTrip.{unescaped-escaped}
use Rattle.script_text.proofs.Spellings.{first_word-digits, first_word-decimal, field-decimal}

-- ---- reading: how many bytes are told is not asked for

abbrev data_of : List ℕ → Option (List ℕ)
data_of text = unescaped (word_and_rest text).1

abbrev refusal_from : ℕ → ℕ → Option Refusal
refusal_from n a =
    if n == 1 then Some OutOfMemory else
    if n == 2 then Some BadFrame else
    if n == 3 then Some NotAttached else
    if n == 4 then Some AlreadyAttached else
    if n == 5 then Some BadPath else
    if n == 6 then Some BadOption else
    if n == 7 then Some NotFound else
    if n == 8 then Some Exists else
    if n == 9 then Some NotDirectory else
    if n == 10 then Some IsDirectory else
    if n == 11 then Some NotEmpty else
    if n == 12 then Some Busy else
    if n == 13 then Some BadHandle else
    if n == 14 then Some BadMode else
    if n == 15 then Some (BadText a) else
    if n == 16 then Some TooLarge else
    if n == 17 then Some Gone else
    if n == 18 then Some ReadPending else
    if n == 19 then Some (TooSmall a) else
    if n == 20 then Some OutboxFull else
    if n == 21 then Some (Backlogged a) else
    if n == 22 then Some (NoClient a) else
    if n == 23 then Some BadArgument else
    if n == 24 then Some TableFull else None

-- what stands behind a refusal's name, or 0
abbrev argument_behind : List ℕ → ℕ
argument_behind text = unwrap_or (first_word text >>= (λ parts. field_of parts.1)) 0

abbrev refusal_of : List ℕ → Option Refusal
refusal_of text = do
  parts ← first_word text
  number ← code_of parts.0
  refusal_from number (argument_behind parts.1)

abbrev read_of : List ℕ → Option (Result (List ℕ) Refusal)
read_of text = do
  parts ← first_word text
  if same parts.0 (codes "data") then option_map Ok (data_of parts.1) else option_map Err (refusal_of parts.1)

abbrev pulse_of : List ℕ → Option Reply
pulse_of text = do
  parts ← first_word text
  code ← code_of parts.0
  value ← field_of parts.1
  Some (Ok (Queued (Pulse code value)))

abbrev done_of : List ℕ → Option Reply
done_of text = do
  parts ← first_word text
  handle ← field_of parts.0
  read ← read_of parts.1
  Some (Ok (Queued (ReadDone handle read)))

abbrev alone_of : List ℕ → Option Reply
alone_of word = if same word (codes "ok") then Some (Ok Done) else if same word (codes "parked") then Some (Ok Parked) else Some (Ok Empty)

abbrev with_of : List ℕ → List ℕ → Option Reply
with_of word text =
    if same word (codes "handle") then option_map (λ n. Ok (Opened n)) (field_of text) else
    if same word (codes "data") then option_map (λ bytes. Ok (Data bytes)) (data_of text) else
    if same word (codes "wrote") then option_map (λ n. Ok (Wrote n)) (field_of text) else
    if same word (codes "input") then Some (Ok (Input (same text (codes "1")))) else
    if same word (codes "pulse") then pulse_of text else
    if same word (codes "done") then done_of text else
    option_map Err (refusal_of text)

abbrev reply_in : List ℕ → Option (List ℕ × List ℕ) → Option Reply
reply_in text None = alone_of text
reply_in text (Some parts) = with_of parts.0 parts.1

abbrev reply_of : List ℕ → Option Reply
reply_of text = reply_in text (first_word text)

abbrev answer_of : List ℕ → Option (ℕ × Reply)
answer_of line = do
  parts ← first_word line
  conn ← conn_of parts.0
  reply ← reply_of parts.1
  Some (conn, reply)

-- ---- bytes

data-some : (ds text bytes : List ℕ) → list_all is_digit ds ≡ true → unescaped text ≡ Some bytes → data_of (ds ++ 32 ∷ text) ≡ Some bytes
data-some ds text bytes digits is = rw (first_word-digits ds text digits) is

data-read : (bytes : List ℕ) → FitsBytes bytes → data_of (decimal (length bytes) ++ (if is_empty bytes then [] else codes " " ++ escaped bytes)) ≡ Some bytes
data-read [] fits = rw (decimal_digit 0 (omega arith)) refl
data-read (b ∷ bs) fits = data-some (decimal (length (b ∷ bs))) (escaped (b ∷ bs)) (b ∷ bs) (decimal-digits (length (b ∷ bs)) fits.1) (unescaped-escaped (b ∷ bs) fits.0)

-- ---- refusals

number-small : (refusal : Refusal) → number_of refusal < 256
number-small OutOfMemory = omega arith
number-small BadFrame = omega arith
number-small NotAttached = omega arith
number-small AlreadyAttached = omega arith
number-small BadPath = omega arith
number-small BadOption = omega arith
number-small NotFound = omega arith
number-small Exists = omega arith
number-small NotDirectory = omega arith
number-small IsDirectory = omega arith
number-small NotEmpty = omega arith
number-small Busy = omega arith
number-small BadHandle = omega arith
number-small BadMode = omega arith
number-small (BadText line) = omega arith
number-small TooLarge = omega arith
number-small Gone = omega arith
number-small ReadPending = omega arith
number-small (TooSmall need) = omega arith
number-small OutboxFull = omega arith
number-small (Backlogged handle) = omega arith
number-small (NoClient id) = omega arith
number-small BadArgument = omega arith
number-small TableFull = omega arith

refusal_from-is : (refusal : Refusal) → refusal_from (number_of refusal) (argument_of refusal) ≡ Some refusal
refusal_from-is OutOfMemory = refl
refusal_from-is BadFrame = refl
refusal_from-is NotAttached = refl
refusal_from-is AlreadyAttached = refl
refusal_from-is BadPath = refl
refusal_from-is BadOption = refl
refusal_from-is NotFound = refl
refusal_from-is Exists = refl
refusal_from-is NotDirectory = refl
refusal_from-is IsDirectory = refl
refusal_from-is NotEmpty = refl
refusal_from-is Busy = refl
refusal_from-is BadHandle = refl
refusal_from-is BadMode = refl
refusal_from-is (BadText line) = refl
refusal_from-is TooLarge = refl
refusal_from-is Gone = refl
refusal_from-is ReadPending = refl
refusal_from-is (TooSmall need) = refl
refusal_from-is OutboxFull = refl
refusal_from-is (Backlogged handle) = refl
refusal_from-is (NoClient id) = refl
refusal_from-is BadArgument = refl
refusal_from-is TableFull = refl

argument-read : (refusal : Refusal) → FitsRefusal refusal → argument_behind (name_of refusal ++ argument_word refusal) ≡ argument_of refusal
argument-read OutOfMemory small = refl
argument-read BadFrame small = refl
argument-read NotAttached small = refl
argument-read AlreadyAttached small = refl
argument-read BadPath small = refl
argument-read BadOption small = refl
argument-read NotFound small = refl
argument-read Exists small = refl
argument-read NotDirectory small = refl
argument-read IsDirectory small = refl
argument-read NotEmpty small = refl
argument-read Busy small = refl
argument-read BadHandle small = refl
argument-read BadMode small = refl
argument-read (BadText line) small = rw (field-decimal line small) refl
argument-read TooLarge small = refl
argument-read Gone small = refl
argument-read ReadPending small = refl
argument-read (TooSmall need) small = rw (field-decimal need small) refl
argument-read OutboxFull small = refl
argument-read (Backlogged handle) small = rw (field-decimal handle small) refl
argument-read (NoClient id) small = rw (field-decimal id small) refl
argument-read BadArgument small = refl
argument-read TableFull small = refl

refusal-read : (refusal : Refusal) → FitsRefusal refusal → refusal_of (decimal (number_of refusal) ++ codes " " ++ name_of refusal ++ argument_word refusal) ≡ Some refusal
refusal-read refusal fits =
    let n = number_of refusal in
    let low : n < 256 = number-small refusal in
    let behind : List ℕ = name_of refusal ++ argument_word refusal in
    let regrouped : decimal n ++ codes " " ++ name_of refusal ++ argument_word refusal ≡ decimal n ++ codes " " ++ behind = simp append_assoc in
    let of_number : code_of (decimal n) ≡ Some n = number-decimal 255 n (omega arith) (omega arith) in
    rw (regrouped, first_word-decimal n behind (omega arith), of_number, argument-read refusal fits) (refusal_from-is refusal)

-- ---- items

read-read : (read : Result (List ℕ) Refusal) → FitsRead read → read_of (read_words read) ≡ Some read
read-read (Ok bytes) fits = ap (λ o. option_map Ok o) (data-read bytes fits)
read-read (Err refusal) fits = ap (λ o. option_map Err o) (refusal-read refusal fits)

pulse-read : (code value : ℕ) → code < 256 → value < 2 ^ 32 → pulse_of (decimal code ++ codes " " ++ decimal value) ≡ Some (Ok (Queued (Pulse code value)))
pulse-read code value small_code small_value =
    let of_code : code_of (decimal code) ≡ Some code = number-decimal 255 code (omega arith) (omega arith) in
    rw (first_word-decimal code (decimal value) (omega arith), of_code, field-decimal value small_value) refl

done-read : (handle : ℕ) (read : Result (List ℕ) Refusal) → handle < 2 ^ 32 → FitsRead read → done_of (decimal handle ++ codes " " ++ read_words read) ≡ Some (Ok (Queued (ReadDone handle read)))
done-read handle read small fits = rw (first_word-decimal handle (read_words read) small, field-decimal handle small, read-read read fits) refl

-- ---- answers

reply-read : (reply : Reply) → FitsAnswer reply → reply_of (answer_words reply) ≡ Some reply
reply-read (Ok Done) fits = refl
reply-read (Ok (Opened handle)) fits = ap (λ o. option_map (λ n. Ok (Opened n)) o) (field-decimal handle fits)
reply-read (Ok (Data bytes)) fits = ap (λ o. option_map (λ content. Ok (Data content)) o) (data-read bytes fits)
reply-read (Ok (Wrote count)) fits = ap (λ o. option_map (λ n. Ok (Wrote n)) o) (field-decimal count fits)
reply-read (Ok Parked) fits = refl
reply-read (Ok (Input true)) fits = refl
reply-read (Ok (Input false)) fits = refl
reply-read (Ok (Queued (Pulse code value))) fits = pulse-read code value fits.0 fits.1
reply-read (Ok (Queued (ReadDone handle read))) fits = done-read handle read fits.0 fits.1
reply-read (Ok Empty) fits = refl
reply-read (Err refusal) fits = ap (λ o. option_map Err o) (refusal-read refusal fits)

answer-read : (conn : ℕ) (reply : Reply) → conn < 2 ^ 16 → FitsAnswer reply → answer_of (decimal conn ++ codes " " ++ answer_words reply) ≡ Some (conn, reply)
answer-read conn reply small fits =
    let of_conn : conn_of (decimal conn) ≡ Some conn = number-decimal 65535 conn (omega arith) (omega arith) in
    rw (first_word-decimal conn (answer_words reply) (omega arith), of_conn, reply-read reply fits) refl

pub answers-told : (conn other_conn : ℕ) (reply other : Reply) → conn < 2 ^ 16 → other_conn < 2 ^ 16 → FitsAnswer reply → FitsAnswer other
    → answer_line conn reply ≡ answer_line other_conn other → (conn ≡ other_conn) × (reply ≡ other)
answers-told conn other_conn reply other small other_small fits other_fits lines =
    let front = append_cancel_right (decimal conn ++ codes " " ++ answer_words reply) (decimal other_conn ++ codes " " ++ answer_words other) (10 ∷ []) lines in
    let read : ◌≡◌ {A = Option (ℕ × Reply)} (Some (conn, reply)) (Some (other_conn, other)) =
    sym (answer-read conn reply small fits) ∙ ap answer_of front ∙ answer-read other_conn other other_small other_fits in (
      ap (λ o. (unwrap_or {T = ℕ × Reply} o (conn, reply)).0) read,
      ap (λ o. (unwrap_or {T = ℕ × Reply} o (conn, reply)).1) read,
    )
