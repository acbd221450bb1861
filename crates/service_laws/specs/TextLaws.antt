-- The laws of texts: what is printed is read as it was, and each line has one printing. Own.
use Rattle.std.specs.Prelude.{◌≡◌, ℕ, List, ◌++◌, map, true, None, Ok}
use Rattle.std.specs.List.{list_all}
use Rattle.pps_types.specs.declared.line.Line.{Line}
use Rattle.pps_types.specs.Text.{write_text, print_line, print_lines, is_line, as_written}

-- the printings of lines, one behind the other, are read as these lines
abbrev pub PrintedLinesAreRead : Type 0
PrintedLinesAreRead = (lines : List Line) → list_all is_line lines ≡ true
    → write_text (print_lines lines) ≡ Ok (record { header = None; lines = map as_written lines })

-- lines with equal printings are equal
abbrev pub PrintingsAreUnique : Type 0
PrintingsAreUnique = (l k : Line) → is_line l ≡ true → is_line k ≡ true → print_line l ≡ print_line k → l ≡ k

-- where texts begin with a printed line each and are equal, so are these lines, and what follows them
abbrev pub PrintingsArePrefixFree : Type 0
PrintingsArePrefixFree = (l k : Line) (xs ys : List ℕ) → is_line l ≡ true → is_line k ≡ true
    → print_line l ++ xs ≡ print_line k ++ ys → (l ≡ k) × (xs ≡ ys)
