-- Lines are printed one after another.
use Rattle.std.proofs.Common.{ap, sym, ◌∙◌, append_assoc}
use Rattle.std.proofs.lemmas.Grind.{common_steps}
use Rattle.std.specs.Prelude.{◌≡◌, List, [], ◌∷◌, ◌++◌, refl}
use Rattle.pps_types.specs.declared.line.Line.{Line}
use Rattle.pps_types.specs.Text.{print_line, print_lines}

pub print_lines-append : (ls more : List Line) → print_lines (ls ++ more) ≡ print_lines ls ++ print_lines more
print_lines-append [] more = refl
print_lines-append (l ∷ ls) more = ap (λ rest. print_line l ++ rest) (print_lines-append ls more) ∙ sym (append_assoc (print_line l) (print_lines ls) (print_lines more))

pub ruleset printing = (print_lines-append, common_steps)
