-- Answers have visible bytes and spaces alone.
use Rattle.std.proofs.Common.{◌≡◌, ℕ, ◌/◌, ◌%◌, ◌<◌, ◌^◌, Bool, true, false, cond, List, [], ◌∷◌, ◌++◌, length, Result, Ok, Err, refl, arith}
use Rattle.std.specs.Prelude.{◌==◌, ◌&&◌, codes, All}
use Rattle.std.specs.List.{list_all}
use Rattle.std.specs.Fmt.{decimal}
use Rattle.std.proofs.lemmas.Bool.Decides.{nat_tests}
use Rattle.std.proofs.lemmas.List.Elements.{All-head, All-tail}
use Rattle.pps_types.specs.declared.outcome.Item.TheVariants.{Pulse, ReadDone}
use Rattle.pps_types.specs.declared.outcome.Outcome.TheVariants.{Done, Opened, Data, Wrote, Parked, Input, Item as Queued, Empty}
use Rattle.pps_types.specs.declared.refusal.Refusal.{Refusal}
use Rattle.pps_types.specs.declared.refusal.Refusal.TheVariants.{OutOfMemory, BadFrame, NotAttached, AlreadyAttached, BadPath, BadOption, NotFound, Exists, NotDirectory, IsDirectory, NotEmpty, Busy, BadHandle, BadMode, BadText, TooLarge, Gone, ReadPending, TooSmall, OutboxFull, Backlogged, NoClient, BadArgument, TableFull}
use Rattle.pps_types.specs.Bytes.{is_between, is_digit}
use Rattle.pps_types.specs.Outcome.{Reply}
use Rattle.pps_types.specs.Refusal.{number_of, name_of}
use Rattle.script_text.specs.Answer.{data_words, argument_word, refusal_words, read_words, answer_words, are_visible, FitsBytes, FitsRefusal, FitsRead, FitsAnswer}
use Rattle.script_text.specs.Escapes.{hex_digit, escaped_byte, escaped}
use Rattle.pps_types.proofs.Decimals.{decimal-digits}

append-visible : (xs ys : List ℕ) → are_visible xs ≡ true → are_visible ys ≡ true → are_visible (xs ++ ys) ≡ true
append-visible [] ys first rest = rest
append-visible (x ∷ xs) ys first rest = by (is_between 32 126 x) first (λ more. append-visible xs ys more rest)
  where
    by : (b : Bool) → (b && are_visible xs) ≡ true → (are_visible xs ≡ true → are_visible (xs ++ ys) ≡ true) → (b && are_visible (xs ++ ys)) ≡ true
    by true more next = next more
    by false more next = more

digits-visible : (ds : List ℕ) → list_all is_digit ds ≡ true → are_visible ds ≡ true
digits-visible [] digits = refl
digits-visible (d ∷ ds) digits =
    let first : is_between 32 126 d ≡ true = grind (arith, nat_tests) in
    let more : list_all is_digit ds ≡ true = grind (arith, nat_tests) in
    rw (first, digits-visible ds more)

decimal-visible : (n : ℕ) → n < 2 ^ 64 → are_visible (decimal n) ≡ true
decimal-visible n small = digits-visible (decimal n) (decimal-digits n small)

-- ---- bytes

hex-visible : (n : ℕ) → n < 16 → is_between 32 126 (hex_digit n) ≡ true
hex-visible n small = grind (arith, nat_tests)

byte-visible : (b : ℕ) → b < 256 → are_visible (escaped_byte b) ≡ true
byte-visible b small = by (b == 10) (b == 92) (is_between 32 126 b) refl
  where
    by : (line slash shown : Bool) → is_between 32 126 b ≡ shown
        → are_visible (cond line (92 ∷ 110 ∷ []) (cond slash (92 ∷ 92 ∷ []) (cond shown (b ∷ []) (92 ∷ 120 ∷ hex_digit (b / 16) ∷ hex_digit (b % 16) ∷ [])))) ≡ true
    by true slash shown is = refl
    by false true shown is = refl
    by false false true is = rw is refl
    by false false false is = rw (hex-visible (b / 16) (omega arith), hex-visible (b % 16) (omega arith)) refl

escaped-visible : (bytes : List ℕ) → All (λ b. b < 256) bytes → are_visible (escaped bytes) ≡ true
escaped-visible [] small = refl
escaped-visible (b ∷ bs) small =
    append-visible (escaped_byte b) (escaped bs) (byte-visible b (All-head (λ x. x < 256) b bs small)) (escaped-visible bs (All-tail (λ x. x < 256) b bs small))

data-visible : (bytes : List ℕ) → FitsBytes bytes → are_visible (data_words bytes) ≡ true
data-visible [] fits = append-visible (decimal 0) [] (decimal-visible 0 (omega arith)) refl
data-visible (b ∷ bs) fits =
    append-visible (decimal (length (b ∷ bs))) (codes " " ++ escaped (b ∷ bs)) (decimal-visible (length (b ∷ bs)) fits.1) (escaped-visible (b ∷ bs) fits.0)

-- ---- refusals

number-visible : (refusal : Refusal) → are_visible (decimal (number_of refusal)) ≡ true
number-visible OutOfMemory = decimal-visible 1 (omega arith)
number-visible BadFrame = decimal-visible 2 (omega arith)
number-visible NotAttached = decimal-visible 3 (omega arith)
number-visible AlreadyAttached = decimal-visible 4 (omega arith)
number-visible BadPath = decimal-visible 5 (omega arith)
number-visible BadOption = decimal-visible 6 (omega arith)
number-visible NotFound = decimal-visible 7 (omega arith)
number-visible Exists = decimal-visible 8 (omega arith)
number-visible NotDirectory = decimal-visible 9 (omega arith)
number-visible IsDirectory = decimal-visible 10 (omega arith)
number-visible NotEmpty = decimal-visible 11 (omega arith)
number-visible Busy = decimal-visible 12 (omega arith)
number-visible BadHandle = decimal-visible 13 (omega arith)
number-visible BadMode = decimal-visible 14 (omega arith)
number-visible (BadText line) = decimal-visible 15 (omega arith)
number-visible TooLarge = decimal-visible 16 (omega arith)
number-visible Gone = decimal-visible 17 (omega arith)
number-visible ReadPending = decimal-visible 18 (omega arith)
number-visible (TooSmall need) = decimal-visible 19 (omega arith)
number-visible OutboxFull = decimal-visible 20 (omega arith)
number-visible (Backlogged handle) = decimal-visible 21 (omega arith)
number-visible (NoClient id) = decimal-visible 22 (omega arith)
number-visible BadArgument = decimal-visible 23 (omega arith)
number-visible TableFull = decimal-visible 24 (omega arith)

name-visible : (refusal : Refusal) → are_visible (name_of refusal) ≡ true
name-visible OutOfMemory = refl
name-visible BadFrame = refl
name-visible NotAttached = refl
name-visible AlreadyAttached = refl
name-visible BadPath = refl
name-visible BadOption = refl
name-visible NotFound = refl
name-visible Exists = refl
name-visible NotDirectory = refl
name-visible IsDirectory = refl
name-visible NotEmpty = refl
name-visible Busy = refl
name-visible BadHandle = refl
name-visible BadMode = refl
name-visible (BadText line) = refl
name-visible TooLarge = refl
name-visible Gone = refl
name-visible ReadPending = refl
name-visible (TooSmall need) = refl
name-visible OutboxFull = refl
name-visible (Backlogged handle) = refl
name-visible (NoClient id) = refl
name-visible BadArgument = refl
name-visible TableFull = refl

argument-visible : (refusal : Refusal) → FitsRefusal refusal → are_visible (argument_word refusal) ≡ true
argument-visible OutOfMemory fits = refl
argument-visible BadFrame fits = refl
argument-visible NotAttached fits = refl
argument-visible AlreadyAttached fits = refl
argument-visible BadPath fits = refl
argument-visible BadOption fits = refl
argument-visible NotFound fits = refl
argument-visible Exists fits = refl
argument-visible NotDirectory fits = refl
argument-visible IsDirectory fits = refl
argument-visible NotEmpty fits = refl
argument-visible Busy fits = refl
argument-visible BadHandle fits = refl
argument-visible BadMode fits = refl
argument-visible (BadText line) fits = decimal-visible line (omega arith)
argument-visible TooLarge fits = refl
argument-visible Gone fits = refl
argument-visible ReadPending fits = refl
argument-visible (TooSmall need) fits = decimal-visible need (omega arith)
argument-visible OutboxFull fits = refl
argument-visible (Backlogged handle) fits = decimal-visible handle (omega arith)
argument-visible (NoClient id) fits = decimal-visible id (omega arith)
argument-visible BadArgument fits = refl
argument-visible TableFull fits = refl

refusal-visible : (refusal : Refusal) → FitsRefusal refusal → are_visible (refusal_words refusal) ≡ true
refusal-visible refusal fits =
    let n : List ℕ = decimal (number_of refusal) in
    append-visible (n ++ codes " " ++ name_of refusal) (argument_word refusal)
    (append-visible (n ++ codes " ") (name_of refusal) (append-visible n (codes " ") (number-visible refusal) refl) (name-visible refusal))
    (argument-visible refusal fits)

-- ---- answers

read-visible : (read : Result (List ℕ) Refusal) → FitsRead read → are_visible (read_words read) ≡ true
read-visible (Ok bytes) fits = data-visible bytes fits
read-visible (Err refusal) fits = refusal-visible refusal fits

-- a number, a space, and what is behind it
behind-visible : (n : ℕ) (rest : List ℕ) → n < 2 ^ 64 → are_visible rest ≡ true → are_visible (decimal n ++ codes " " ++ rest) ≡ true
behind-visible n rest small more = append-visible (decimal n ++ codes " ") rest (append-visible (decimal n) (codes " ") (decimal-visible n small) refl) more

words-visible : (reply : Reply) → FitsAnswer reply → are_visible (answer_words reply) ≡ true
words-visible (Ok Done) fits = refl
words-visible (Ok (Opened handle)) fits = decimal-visible handle (omega arith)
words-visible (Ok (Data bytes)) fits = data-visible bytes fits
words-visible (Ok (Wrote count)) fits = decimal-visible count (omega arith)
words-visible (Ok Parked) fits = refl
words-visible (Ok (Input true)) fits = refl
words-visible (Ok (Input false)) fits = refl
words-visible (Ok (Queued (Pulse code value))) fits = behind-visible code (decimal value) (omega (arith, fits.0)) (decimal-visible value (omega (arith, fits.1)))
words-visible (Ok (Queued (ReadDone handle read))) fits = behind-visible handle (read_words read) (omega (arith, fits.0)) (read-visible read fits.1)
words-visible (Ok Empty) fits = refl
words-visible (Err refusal) fits = refusal-visible refusal fits

pub answers-visible : (conn : ℕ) (reply : Reply) → conn < 2 ^ 16 → FitsAnswer reply → are_visible (decimal conn ++ codes " " ++ answer_words reply) ≡ true
answers-visible conn reply small fits = behind-visible conn (answer_words reply) (omega arith) (words-visible reply fits)
