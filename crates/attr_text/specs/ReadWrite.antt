-- What the reading of a text stands on, and why a text is refused.
use Rattle.std.specs.Prelude.{◌≡◌, ◌⊎◌, ℕ, List, [], ◌∷◌, Option, None, Result, Ok, Err, unwrap_or}
use Rattle.pps_types.specs.declared.line.WriteLine.{WriteLine}
use Rattle.pps_types.specs.declared.refusal.Refusal.{Refusal}
use Rattle.pps_types.specs.declared.refusal.Refusal.TheVariants.{OutOfMemory}
use Rattle.pps_types.specs.Bytes.{split_at_first}
use Rattle.pps_types.specs.Text.{WriteText, lines_of, write_line, write_lines, write_text}

-- what stands before the first line feed, and what stands behind it
abbrev pub first_line_of : List ℕ → List ℕ × List ℕ
first_line_of bytes = unwrap_or (split_at_first 10 bytes) (bytes, [])

-- the lines of the bytes, the first of which has that number
abbrev pub lines_from : ℕ → List ℕ → Result (List WriteLine) Refusal
lines_from first bytes = write_lines first (lines_of bytes)

-- the line of a list of one
abbrev pub line_alone : List (List ℕ) → Option WriteLine
line_alone (l ∷ []) = write_line l
line_alone _ = None

-- the line of a text, if it has no other, be it an empty one or a header
abbrev pub single_line : List ℕ → Option WriteLine
single_line bytes = line_alone (lines_of bytes)

-- the text of this line alone
abbrev pub text_of_line : WriteLine → WriteText
text_of_line line = record { header = None; lines = line ∷ [] }

-- the bytes say this line, and nothing else
abbrev pub IsSingle : List ℕ → WriteLine → Type 0
IsSingle bytes line = write_text bytes ≡ Ok (text_of_line line)

-- memory is wanting, or the lines from number first on are refused for this
abbrev pub IsLinesRefusal : ℕ → List ℕ → Refusal → Type 0
IsLinesRefusal first bytes refusal = (refusal ≡ OutOfMemory) ⊎ (write_lines first (lines_of bytes) ≡ Err refusal)

-- memory is wanting, or the text is refused for this
abbrev pub IsTextRefusal : List ℕ → Refusal → Type 0
IsTextRefusal bytes refusal = (refusal ≡ OutOfMemory) ⊎ (write_text bytes ≡ Err refusal)
