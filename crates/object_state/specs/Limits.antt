-- The limits of an object.
use Rattle.std.specs.Prelude.{ℕ, Bool, true, false, ◌||◌, nat_lt, ◌≡◌, ◌≢◌, ◌+◌, ◌≤◌, ◌<◌, ◌^◌, List, Option, Some, fold, length}
use Rattle.pps_types.specs.declared.line.Line.{Line}
use Rattle.pps_types.specs.declared.refusal.Refusal.{Refusal}
use Rattle.pps_types.specs.declared.refusal.Refusal.TheVariants.{OutOfMemory}
use Rattle.pps_types.specs.Checks.{first_refusal, limit_checks}
use Rattle.pps_types.specs.History.{Attribute, text_length, apply_line}
use Rattle.pps_types.specs.Text.{print_lines}
use Rattle.object_state.specs.Marks.{are_unmarked}

-- as many attributes, and as many bytes of printed attributes, as an object may have
pub record IsWithinLimits (attributes : List Attribute) : Type 0 where
  pub count : length attributes ≤ 1024
  pub bytes : text_length attributes ≤ 65536

-- more attributes, or more bytes of printed attributes, than an object may have
abbrev pub is_past_limits : List Attribute → Bool
is_past_limits attributes = nat_lt 1024 (length attributes) || nat_lt 65536 (text_length attributes)

-- lines that can be applied to these attributes where there is room for that many more
pub record CanTake (attributes : List Attribute) (room : ℕ) (lines : List Line) : Type 0 where
  pub fits : length lines ≤ room
  pub is_length : text_length attributes + length (print_lines lines) < 2 ^ 64
  pub within : IsWithinLimits (fold apply_line attributes lines)

-- attributes within the limits, of a text of that length; without marks none of them is nonpersistent
pub record IsHeld (attributes : List Attribute) (text_len : ℕ) (has_marks : Bool) : Type 0 where
  pub kept : text_len ≡ text_length attributes
  pub within : IsWithinLimits attributes
  pub marked : has_marks ≡ false → are_unmarked attributes ≡ true

-- ---- by lines that take effect, one after the other

-- the attributes after these lines
abbrev pub after_lines : List Attribute → List Line → List Attribute
after_lines attributes lines = fold apply_line attributes lines

-- after these lines they are past the limits
abbrev pub lines_pass_limits : List Attribute → List Line → Bool
lines_pass_limits attributes lines = is_past_limits (after_lines attributes lines)

-- Where memory does not lack, it is the refusal by the limits after these lines, or none.
abbrev pub IsLimitRefusal : Option Refusal → List Attribute → List Line → Type 0
IsLimitRefusal given attributes lines = given ≢ Some OutOfMemory → given ≡ first_refusal (limit_checks (after_lines attributes lines))

-- how many bytes the printed attributes and, after them, these printed lines have
abbrev pub length_with : List Attribute → List Line → ℕ
length_with attributes lines = text_length attributes + length (print_lines lines)
