use Rattle.std.proofs.Common.{◌≡◌, ◌-◌, ◌<◌, ◌≤◌, length, take}
use Rattle.script_text.specs.Escapes as escapes
use Rattle.script_text.proofs.chunks.write_chunks.Given as goal

abbrev pub invariant-chunks : goal.invariant-chunks
invariant-chunks l = record { some : 0 < l.taken; taken : l.taken ≤ length l.bytes; within : l.end ≤ 256; text : take l.end l.text ≡ escapes.escaped (take l.taken l.bytes) }

abbrev pub decreases-chunks : goal.decreases-chunks
decreases-chunks l = length l.bytes - l.taken
