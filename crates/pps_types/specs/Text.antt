-- The text of a write: what it says, line by line, and the one printing of lines and headers.
-- QNX PPS guide, on the format of objects and attributes; which bytes names and encodings have is our own.
use Rattle.std.specs.Prelude.{ℕ, ◌+◌, List, [], ◌∷◌, ◌++◌, Bool, false, ◌&&◌, ◌||◌, ◌==◌, nat_le, if◌then◌else◌, Option, Some, None, Result, Ok, Err, option_and_then, length, codes}
use Rattle.std.specs.Option.{option_or}
use Rattle.std.specs.List.{list_all}
use Rattle.pps_types.specs.declared.refusal.Refusal.{Refusal}
use Rattle.pps_types.specs.declared.refusal.Refusal.TheVariants.{BadText}
use Rattle.pps_types.specs.declared.line.Mark.{Mark}
use Rattle.pps_types.specs.declared.line.Mark.TheVariants.{Keep, On, Off}
use Rattle.pps_types.specs.declared.line.WriteLine.{WriteLine}
use Rattle.pps_types.specs.declared.line.WriteLine.TheVariants.{Set as WriteSet, Del as WriteDel}
use Rattle.pps_types.specs.declared.line.Line.{Line}
use Rattle.pps_types.specs.declared.line.Line.TheVariants.{Set, Del}
use Rattle.pps_types.specs.Bytes.{is_empty, is_between, is_digit, after_prefix, split_at_first, pieces, result_map}

-- ---- the parts of a line

-- a letter or `_`
abbrev pub starts_name : ℕ → Bool
starts_name b = is_between 65 90 b || is_between 97 122 b || b == 95

-- also a digit, `.` or `-`
abbrev pub continues_name : ℕ → Bool
continues_name b = starts_name b || is_digit b || b == 46 || b == 45

-- 1 to 255 bytes
abbrev pub is_attribute_name : List ℕ → Bool
is_attribute_name [] = false
is_attribute_name (b ∷ bs) = starts_name b && list_all continues_name bs && nat_le (length bs) 254

-- up to 32 visible bytes; it ends before the first `:`
abbrev pub is_encoding : List ℕ → Bool
is_encoding bs = nat_le (length bs) 32 && list_all (λ b. is_between 33 126 b) bs

-- the next step, where this one gave something
infixl 10 ◌>>=◌
abbrev pub ◌>>=◌ : {A B : Type 0} → Option A → (A → Option B) → Option B
found >>= next = option_and_then next found

-- name `:` encoding `:` value
abbrev pub set_line : Mark → List ℕ → Option WriteLine
set_line mark bs = do
  named ← split_at_first 58 bs
  encoded ← split_at_first 58 named.1
  if is_attribute_name named.0 && is_encoding encoded.0 then Some (WriteSet named.0 encoded.0 encoded.1 mark) else None

abbrev pub deletion_line : List ℕ → Option WriteLine
deletion_line name = if is_attribute_name name then Some (WriteDel name) else None

-- a deletion, or a set line, which may have a bracket before it
abbrev pub write_line : List ℕ → Option WriteLine
write_line bs =
    option_or (after_prefix (codes "-") bs >>= deletion_line)
    (option_or (after_prefix (codes "[n]") bs >>= set_line On)
    (option_or (after_prefix (codes "[-n]") bs >>= set_line Off)
    (set_line Keep bs)))

-- ---- the lines of a text

abbrev pub without_empty_end : List (List ℕ) → List (List ℕ)
without_empty_end [] = []
without_empty_end (l ∷ []) = if is_empty l then [] else l ∷ []
without_empty_end (l ∷ m ∷ ms) = l ∷ without_empty_end (m ∷ ms)

-- what stands between the line feeds; a rest behind the last one is a line too, unless it is empty
abbrev pub lines_of : List ℕ → List (List ℕ)
lines_of bytes = without_empty_end (pieces 10 bytes)

abbrev pub line_or : ℕ → Option WriteLine → Result (List WriteLine) Refusal → Result (List WriteLine) Refusal
line_or n None rest = Err (BadText n)
line_or n (Some line) rest = result_map (λ lines. line ∷ lines) rest

-- The lines from number n on. Empty ones are skipped, and the first bad one is named.
abbrev pub write_lines : ℕ → List (List ℕ) → Result (List WriteLine) Refusal
write_lines n [] = Ok []
write_lines n (l ∷ ls) = if is_empty l then write_lines (n + 1) ls else line_or n (write_line l) (write_lines (n + 1) ls)

-- ---- the text

pub record WriteText : Type 0 where
  pub header : Option (List ℕ)
  pub lines : List WriteLine

abbrev pub with_header : Option (List ℕ) → Result (List WriteLine) Refusal → Result WriteText Refusal
with_header header body = result_map (λ lines. record { header = header; lines = lines }) body

-- what a first line `@` and any bytes names
abbrev pub header_of : List (List ℕ) → Option (List ℕ)
header_of [] = None
header_of (l ∷ ls) = after_prefix (codes "@") l

abbrev pub text_after : Option (List ℕ) → List (List ℕ) → List (List ℕ) → Result WriteText Refusal
text_after (Some header) all others = with_header (Some header) (write_lines 2 others)
text_after None all others = with_header None (write_lines 1 all)

-- the header, where the first line is one, and the lines
abbrev pub text_of_lines : List (List ℕ) → Result WriteText Refusal
text_of_lines [] = with_header None (Ok [])
text_of_lines (l ∷ ls) = text_after (header_of (l ∷ ls)) (l ∷ ls) ls

-- what a written text says, or its first bad line
abbrev pub write_text : List ℕ → Result WriteText Refusal
write_text bytes = text_of_lines (lines_of bytes)

-- ---- printing

-- the one printing of a line
abbrev pub print_line : Line → List ℕ
print_line (Set name enc value n) = (if n then codes "[n]" else []) ++ name ++ codes ":" ++ enc ++ codes ":" ++ value ++ (10 ∷ [])
print_line (Del name) = codes "-" ++ name ++ (10 ∷ [])

abbrev pub print_lines : List Line → List ℕ
print_lines [] = []
print_lines (l ∷ ls) = print_line l ++ print_lines ls

-- a mark of a delivered block: past the limit `!`, created or opened `+`, deleted or closed `-`, truncated `#`, dropped `*`
abbrev pub is_header_mark : ℕ → Bool
is_header_mark b = b == 33 || b == 43 || b == 45 || b == 35 || b == 42

-- the mark, if there is one, `@`, the name, and a line feed
abbrev pub print_header : List ℕ → List ℕ → List ℕ
print_header mark name = mark ++ codes "@" ++ name ++ (10 ∷ [])

-- ---- lines that have a printing

abbrev pub has_no_line_feed : List ℕ → Bool
has_no_line_feed bs = list_all (λ b. if b == 10 then false else is_between 0 255 b) bs

abbrev pub has_no_colon : List ℕ → Bool
has_no_colon bs = list_all (λ b. if b == 58 then false else is_between 0 255 b) bs

-- a line that can be written: its name and its encoding are ones, and its value has no line feed
abbrev pub is_line : Line → Bool
is_line (Set name enc value n) = is_attribute_name name && is_encoding enc && has_no_colon enc && has_no_line_feed value
is_line (Del name) = is_attribute_name name

-- the line of a write that is read from the printing of a line
abbrev pub as_written : Line → WriteLine
as_written (Set name enc value n) = WriteSet name enc value (if n then On else Keep)
as_written (Del name) = WriteDel name
