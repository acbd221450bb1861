-- Filters: what their texts say, and which lines they match. QNX PPS guide, on filtering notifications; the operators are our own.
use Rattle.std.specs.Prelude.{ℕ, ◌+◌, List, Bool, true, false, not, ◌&&◌, nat_le, nat_lt, ◌^◌, ℤ, pos, neg_ℤ, int_lt, if◌then◌else◌, Option, Some, None, option_map, option_and_then, length, drop, take_while, codes}
use Rattle.std.specs.Option.{option_or, option_map_or}
use Rattle.std.specs.List.{list_any}
use Rattle.pps_types.specs.declared.line.Line.{Line}
use Rattle.pps_types.specs.declared.line.Line.TheVariants.{Set, Del}
use Rattle.pps_types.specs.Bytes.{same, is_empty, is_digits, number_from, after_prefix, plain_pieces, unescaped, all_some}
use Rattle.pps_types.specs.Text.{is_attribute_name, continues_name}

pub data Condition : Type 0 where
  Always : Condition
  IsValue : List ℕ → Condition
  IsOtherValue : List ℕ → Condition
  IsBelow : ℤ → Condition
  IsAbove : ℤ → Condition

-- what a filter asks of the attributes of one name
pub record Part : Type 0 where
  pub name : List ℕ
  pub condition : Condition

-- ---- texts

abbrev pub digits_below : ℕ → List ℕ → Option ℕ
digits_below bound ds = if is_digits ds && nat_lt (number_from 0 ds) bound then Some (number_from 0 ds) else None

-- digits, also behind a `-`, that stay within the signed numbers of 64 bits
abbrev pub whole_number : List ℕ → Option ℤ
whole_number bs =
    option_or (option_map (λ n. pos n) (digits_below (2 ^ 63) bs))
    (option_and_then (λ ds. option_map (λ n. neg_ℤ (pos n)) (digits_below (2 ^ 63 + 1) ds)) (after_prefix (codes "-") bs))

-- what stands behind an operator, read by that operator
abbrev pub operand : List ℕ → (List ℕ → Option Condition) → List ℕ → Option Condition
operand operator read bs = option_and_then read (after_prefix operator bs)

-- what stands behind a part's name
abbrev pub condition_of : List ℕ → Option Condition
condition_of bs =
    option_or (if is_empty bs then Some Always else None)
    (option_or (operand (codes "=") (λ v. option_map (λ w. IsValue w) (unescaped false v)) bs)
    (option_or (operand (codes "!=") (λ v. option_map (λ w. IsOtherValue w) (unescaped false v)) bs)
    (option_or (operand (codes "<") (λ v. option_map (λ i. IsBelow i) (whole_number v)) bs)
    (operand (codes ">") (λ v. option_map (λ i. IsAbove i) (whole_number v)) bs))))

abbrev pub named_part : List ℕ → List ℕ → Option Part
named_part name rest = if is_attribute_name name then option_map (λ c. record { name = name; condition = c }) (condition_of rest) else None

-- the longest beginning that a name may have, and the condition behind it
abbrev pub part_of : List ℕ → Option Part
part_of bs = named_part (take_while continues_name bs) (drop (length (take_while continues_name bs)) bs)

-- parts joined by `+`
abbrev pub parts_of : List ℕ → Option (List Part)
parts_of bs = all_some part_of (plain_pieces false 43 bs)

-- in a filter by itself no comma is plain
abbrev pub filter_text : List ℕ → Option (List Part)
filter_text bs = if nat_le (length (plain_pieces false 44 bs)) 1 then parts_of bs else None

-- ---- meaning

abbrev pub value_meets : Condition → List ℕ → Bool
value_meets Always value = true
value_meets (IsValue v) value = same value v
value_meets (IsOtherValue v) value = not (same value v)
value_meets (IsBelow i) value = option_map_or (λ z. int_lt z i) (whole_number value) false
value_meets (IsAbove i) value = option_map_or (λ z. int_lt i z) (whole_number value) false

-- a deletion has no value that a condition could be asked of
abbrev pub part_matches : Line → Part → Bool
part_matches (Set name enc value n) part = same name part.name && value_meets part.condition value
part_matches (Del name) part = same name part.name

-- some part matches; without a filter every line does
abbrev pub matches : Option (List Part) → Line → Bool
matches None line = true
matches (Some parts) line = list_any (part_matches line) parts
