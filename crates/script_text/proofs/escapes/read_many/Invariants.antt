use Rattle.std.proofs.Common.{◌≡◌, length}
use Rattle.script_text.specs.Escapes as escapes
use Rattle.script_text.proofs.Unescaping.{before}
use Rattle.script_text.proofs.escapes.read_many.Given as goal

abbrev pub invariant-escapes : goal.invariant-escapes
invariant-escapes l = before l.bytes.items (escapes.unescaped l.rest) ≡ escapes.unescaped l.text

abbrev pub decreases-escapes : goal.decreases-escapes
decreases-escapes l = length l.rest
