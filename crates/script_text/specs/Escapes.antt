-- Bytes as scripts and answers write them: with escapes, which begin with a backslash.
use Rattle.std.specs.Prelude.{ℕ, ◌+◌, ◌-◌, ◌*◌, ◌/◌, ◌%◌, List, [], ◌∷◌, ◌++◌, ◌==◌, ◌&&◌, Bool, not, nat_lt, if◌then◌else◌, Option, Some, None, option_map, option_and_then, codes}
use Rattle.std.specs.List.{flat_map}
use Rattle.std.specs.Option.{option_to_list}
use Rattle.pps_types.specs.Bytes.{is_between}

-- ---- as answers show them

-- the digit of a number below 16: `0` to `9`, `a` to `f`
abbrev pub hex_digit : ℕ → ℕ
hex_digit n = if nat_lt n 10 then 48 + n else 87 + n

-- LF, the backslash, the visible bytes and the space, and any other byte
abbrev pub escaped_byte : ℕ → List ℕ
escaped_byte b =
    if b == 10 then codes "\\n" else
    if b == 92 then codes "\\\\" else
    if is_between 32 126 b then b ∷ [] else
    92 ∷ 120 ∷ hex_digit (b / 16) ∷ hex_digit (b % 16) ∷ []

abbrev pub escaped : List ℕ → List ℕ
escaped bytes = flat_map escaped_byte bytes

-- a byte that is shown as it is
abbrev pub is_plain : ℕ → Bool
is_plain b = is_between 32 126 b && not (b == 92)

-- ---- as scripts write them

-- Where a byte of a written text stands: behind whole bytes, behind a backslash, behind `\x`, or behind `\x` and this byte.
pub data Place : Type 0 where
  Plain : Place
  Escape : Place
  FirstDigit : Place
  SecondDigit : ℕ → Place

-- the number that a digit stands for, in capitals or not
abbrev pub hex_value : ℕ → Option ℕ
hex_value b =
    if is_between 48 57 b then Some (b - 48) else
    if is_between 97 102 b then Some (b - 87) else
    if is_between 65 70 b then Some (b - 55) else None

-- the byte of two digits
abbrev pub hex_byte : ℕ → ℕ → Option ℕ
hex_byte high low = option_and_then (λ h. option_map (λ l. 16 * h + l) (hex_value low)) (hex_value high)

abbrev pub whole : Option ℕ → Option (Option ℕ × Place)
whole byte = option_map (λ b. (Some b, Plain)) byte

-- what a byte says at its place, if it says anything, and the place of the byte behind it; none where it may not stand there
abbrev pub said : Place → ℕ → Option (Option ℕ × Place)
said Plain b = if b == 92 then Some (None, Escape) else Some (Some b, Plain)
said Escape b =
    if b == 110 then Some (Some 10, Plain) else
    if b == 92 then Some (Some 92, Plain) else
    if b == 120 then Some (None, FirstDigit) else None
said FirstDigit b = Some (None, SecondDigit b)
said (SecondDigit high) b = whole (hex_byte high b)

-- a text ends behind whole bytes alone
abbrev pub ends : Place → Option (List ℕ)
ends Plain = Some []
ends _ = None

-- what bytes say from such a place on
abbrev pub unescaped_from : Place → List ℕ → Option (List ℕ)
unescaped_from place [] = ends place
unescaped_from place (b ∷ bs) =
    option_and_then (λ one. option_map (λ rest. option_to_list one.0 ++ rest) (unescaped_from one.1 bs)) (said place b)

abbrev pub unescaped : List ℕ → Option (List ℕ)
unescaped text = unescaped_from Plain text

-- ---- an escape at once

-- the byte of two digits at the front, and what stands behind them
abbrev pub digits_of : List ℕ → Option (ℕ × List ℕ)
digits_of (high ∷ low ∷ bs) = option_map (λ byte. (byte, bs)) (hex_byte high low)
digits_of _ = None

-- the byte of an escape, behind its backslash, and what stands behind it
abbrev pub escape_of : List ℕ → Option (ℕ × List ℕ)
escape_of [] = None
escape_of (b ∷ bs) =
    if b == 110 then Some (10, bs) else
    if b == 92 then Some (92, bs) else
    if b == 120 then digits_of bs else None
