-- What is shown of lines, one after the other.
use Rattle.std.proofs.Common.{◌≡◌, ◌<◌, ℕ, List, ◌++◌, length, append_assoc, sym, ap, ◌∙◌}
use Rattle.pps_types.specs.Text.{write_line}
use Rattle.attr_text.specs.ReadWrite.{first_line_of}
use Rattle.attr_text.proofs.Reading.{lines_of-parts}
use Rattle.script_text.specs.ShownLines.{shown_line, shown_lines}
use Rattle.std.specs.List.{flat_map}

pub shown-more : (out rest line behind all : List ℕ) → 0 < length rest → ◌≡◌ {A = List ℕ × List ℕ} (line, behind) (first_line_of rest)
    → out ++ shown_lines rest ≡ all → (out ++ shown_line (write_line line)) ++ shown_lines behind ≡ all
shown-more out rest line behind all some parts is =
    append_assoc out (shown_line (write_line line)) (shown_lines behind)
    ∙ ap (λ lines. out ++ flat_map (λ l. shown_line (write_line l)) lines) (sym (lines_of-parts rest line behind some parts))
    ∙ is
