use Rattle.std.proofs.Common.{◌≡◌, ◌+◌, ◌≤◌, length, take}
use Rattle.script_text.specs.Escapes as escapes
use Rattle.script_text.proofs.Unescaping.{before}
use Rattle.script_text.proofs.escapes.read_few.Given as goal

abbrev pub invariant-escapes : goal.invariant-escapes
invariant-escapes l = record { room : l.len + length l.rest ≤ 32; read : before (take l.len l.bytes) (escapes.unescaped l.rest) ≡ escapes.unescaped l.text }

abbrev pub decreases-escapes : goal.decreases-escapes
decreases-escapes l = length l.rest
