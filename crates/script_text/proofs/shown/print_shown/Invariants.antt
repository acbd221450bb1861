use Rattle.std.proofs.Common.{◌≡◌, ◌++◌, length}
use Rattle.script_text.specs.ShownLines as script
use Rattle.script_text.proofs.shown.print_shown.Given as goal

-- what is shown so far, and what the rest shows
abbrev pub invariant-loop-rest : goal.invariant-loop-rest
invariant-loop-rest l = l.out.items ++ script.shown_lines l.rest ≡ script.shown_lines l.bytes

abbrev pub decreases-loop-rest : goal.decreases-loop-rest
decreases-loop-rest l = length l.rest
