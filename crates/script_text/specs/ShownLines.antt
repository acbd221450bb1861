-- What is shown of the values in the bytes of a read.
use Rattle.std.specs.Prelude.{ℕ, List, [], ◌∷◌, ◌++◌, true, false, Option, Some, codes}
use Rattle.std.specs.List.{flat_map}
use Rattle.pps_types.specs.declared.line.WriteLine.{WriteLine}
use Rattle.pps_types.specs.declared.line.WriteLine.TheVariants.{Set}
use Rattle.pps_types.specs.declared.shown.Shown.{Shown}
use Rattle.pps_types.specs.declared.shown.Shown.TheVariants.{Plain, Flag, Bytes, Bad}
use Rattle.pps_types.specs.ShownValue.{shown_value}
use Rattle.pps_types.specs.Text.{lines_of, write_line}
use Rattle.script_text.specs.Answer.{counted_words}

abbrev pub value_words : Shown → List ℕ
value_words Plain = []
value_words (Flag true) = codes "true"
value_words (Flag false) = codes "false"
value_words (Bytes bytes) = codes "bytes " ++ counted_words bytes
value_words Bad = codes "bad"

-- two spaces, the name and the value; nothing for a value that is shown as it is
abbrev pub named_line : List ℕ → Shown → List ℕ
named_line name Plain = []
named_line name shown = codes "  " ++ name ++ codes ": " ++ value_words shown ++ 10 ∷ []

-- what is shown of a line: of one that is no attribute's, nothing
abbrev pub shown_line : Option WriteLine → List ℕ
shown_line (Some (Set name enc value mark)) = named_line name (shown_value enc value)
shown_line _ = []

-- and of all lines, in their order
abbrev pub shown_lines : List ℕ → List ℕ
shown_lines bytes = flat_map (λ line. shown_line (write_line line)) (lines_of bytes)
