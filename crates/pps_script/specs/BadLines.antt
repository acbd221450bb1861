-- The bad lines of a script that goes on after them, and what is reported of these. Own.
use Rattle.std.specs.Prelude.{◌≡◌, ℕ, Bool, true, false, List, [], ◌∷◌, ◌++◌, Option, Some, None, Result, Ok, Err}
use Rattle.pps_types.specs.Device.{counted_once_more}
use Rattle.script_text.specs.declared.script_line.ScriptLine.{ScriptLine}
use Rattle.script_text.specs.ScriptLines.{line_of}
use Rattle.pps_script.specs.declared.fault.ScriptFault.{ScriptFault}

-- ---- which they are

-- the number of a line that is bad
abbrev pub if_bad : ℕ → Option ScriptLine → List ℕ
if_bad number None = number ∷ []
if_bad number (Some said) = []

-- the numbers of the bad lines, after so many others: lines are counted from 1, as far as numbers go
abbrev pub bad_after : ℕ → List (List ℕ) → List ℕ
bad_after count [] = []
bad_after count (line ∷ lines) =
    if_bad (counted_once_more count) (line_of line) ++ bad_after (counted_once_more count) lines

-- those that a script goes on after: none where the first bad line ends it
abbrev pub passed : Bool → ℕ → List (List ℕ) → List ℕ
passed false count lines = []
passed true count lines = bad_after count lines

-- ---- what is reported

-- The lines of these numbers are reported, one after the other, where a report of a line leads from
-- one state to another.
abbrev pub ReportsEach : {B : Type 0} → (B → ℕ → B → Type 0) → (old new : B) → List ℕ → Type 0
ReportsEach reports old new [] = new ≡ old
ReportsEach {B} reports old new (number ∷ numbers) =
    (next : B) × reports old number next × ReportsEach reports next new numbers

-- the first of them are reported, and these are left
pub record ReportsUpTo {B : Type 0} (reports : B → ℕ → B → Type 0) (old new : B)
    (numbers left : List ℕ) : Type 0 where
  pub first : List ℕ
  pub parts : numbers ≡ first ++ left
  pub each : ReportsEach reports old new first

-- only the first of them are reported
pub record ReportsFirst {B : Type 0} (reports : B → ℕ → B → Type 0) (old new : B)
    (numbers : List ℕ) : Type 0 where
  pub left : List ℕ
  pub up_to : ReportsUpTo reports old new numbers left

-- the bad lines among these are reported, or the first of them if the script ends here
abbrev pub ReportsLines : {B X : Type 0} → (B → ℕ → B → Type 0) → (patient : Bool) → (count : ℕ)
    → List (List ℕ) → (old new : B) → Result X ScriptFault → Type 0
ReportsLines reports patient count lines old new (Ok done) =
    ReportsEach reports old new (passed patient count lines)
ReportsLines reports patient count lines old new (Err fault) =
    ReportsFirst reports old new (passed patient count lines)
