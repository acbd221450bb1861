-- The answer to a command, as one line.
use Rattle.std.specs.Prelude.{◌<◌, ◌^◌, ℕ, List, [], ◌∷◌, ◌++◌, Bool, if◌then◌else◌, Result, Ok, Err, All, length, codes}
use Rattle.std.specs.List.{list_all}
use Rattle.std.specs.Fmt.{decimal}
use Rattle.pps_types.specs.declared.outcome.Item.{Item}
use Rattle.pps_types.specs.declared.outcome.Item.TheVariants.{Pulse, ReadDone}
use Rattle.pps_types.specs.declared.outcome.Outcome.{Outcome}
use Rattle.pps_types.specs.declared.outcome.Outcome.TheVariants.{Done, Opened, Data, Wrote, Parked, Input, Item as Queued, Empty}
use Rattle.pps_types.specs.declared.refusal.Refusal.{Refusal}
use Rattle.pps_types.specs.declared.refusal.Refusal.TheVariants.{BadText, TooSmall, Backlogged, NoClient}
use Rattle.pps_types.specs.Bytes.{is_empty, is_between}
use Rattle.pps_types.specs.Outcome.{Reply}
use Rattle.pps_types.specs.Refusal.{number_of, name_of, argument_of}
use Rattle.script_text.specs.Escapes.{escaped}

-- what parts the words of an answer
abbrev pub space : List ℕ
space = codes " "

-- how many bytes there are, and the bytes, if there are any
abbrev pub counted_words : List ℕ → List ℕ
counted_words bytes = decimal (length bytes) ++ (if is_empty bytes then [] else codes " " ++ escaped bytes)

abbrev pub data_words : List ℕ → List ℕ
data_words bytes = codes "data " ++ counted_words bytes

-- what a refusal carries, if it carries anything
abbrev pub argument_word : Refusal → List ℕ
argument_word (BadText line) = codes " " ++ decimal line
argument_word (TooSmall need) = codes " " ++ decimal need
argument_word (Backlogged handle) = codes " " ++ decimal handle
argument_word (NoClient id) = codes " " ++ decimal id
argument_word _ = []

abbrev pub refusal_words : Refusal → List ℕ
refusal_words refusal = codes "refused " ++ decimal (number_of refusal) ++ codes " " ++ name_of refusal ++ argument_word refusal

-- the bytes of a read, or why it is refused
abbrev pub read_words : Result (List ℕ) Refusal → List ℕ
read_words (Ok bytes) = data_words bytes
read_words (Err refusal) = refusal_words refusal

abbrev pub item_words : Item → List ℕ
item_words (Pulse code value) = codes "pulse " ++ decimal code ++ codes " " ++ decimal value
item_words (ReadDone handle read) = codes "done " ++ decimal handle ++ codes " " ++ read_words read

-- a pulse
abbrev pub pulse_words : ℕ → ℕ → List ℕ
pulse_words code value = item_words (Pulse code value)

abbrev pub flag_word : Bool → List ℕ
flag_word flag = if flag then codes "1" else codes "0"

abbrev pub outcome_words : Outcome → List ℕ
outcome_words Done = codes "ok"
outcome_words (Opened handle) = codes "handle " ++ decimal handle
outcome_words (Data bytes) = data_words bytes
outcome_words (Wrote count) = codes "wrote " ++ decimal count
outcome_words Parked = codes "parked"
outcome_words (Input now) = codes "input " ++ flag_word now
outcome_words (Queued item) = item_words item
outcome_words Empty = codes "empty"

abbrev pub answer_words : Reply → List ℕ
answer_words (Ok outcome) = outcome_words outcome
answer_words (Err refusal) = refusal_words refusal

-- the connection, and the answer
abbrev pub line_words : ℕ → Reply → List ℕ
line_words conn reply = decimal conn ++ codes " " ++ answer_words reply

-- and LF
abbrev pub answer_line : ℕ → Reply → List ℕ
answer_line conn reply = line_words conn reply ++ 10 ∷ []

-- visible bytes and spaces alone
abbrev pub are_visible : List ℕ → Bool
are_visible bytes = list_all (is_between 32 126) bytes

-- ---- answers that have a line

-- bytes, and their number has 64 bits
abbrev pub FitsBytes : List ℕ → Type 0
FitsBytes bytes = All (λ b. b < 256) bytes × (length bytes < 2 ^ 64)

abbrev pub FitsRefusal : Refusal → Type 0
FitsRefusal refusal = argument_of refusal < 2 ^ 32

abbrev pub FitsRead : Result (List ℕ) Refusal → Type 0
FitsRead (Ok bytes) = FitsBytes bytes
FitsRead (Err refusal) = FitsRefusal refusal

-- the numbers of an answer fit their types, and its bytes are bytes
abbrev pub FitsAnswer : Reply → Type 0
FitsAnswer (Ok (Opened handle)) = handle < 2 ^ 32
FitsAnswer (Ok (Data bytes)) = FitsBytes bytes
FitsAnswer (Ok (Wrote count)) = count < 2 ^ 32
FitsAnswer (Ok (Queued (Pulse code value))) = (code < 256) × (value < 2 ^ 32)
FitsAnswer (Ok (Queued (ReadDone handle read))) = (handle < 2 ^ 32) × FitsRead read
FitsAnswer (Ok _) = Unit {0}
FitsAnswer (Err refusal) = FitsRefusal refusal
