use Rattle.std.proofs.Common.{◌≡◌, ◌+◌, ◌*◌, ◌-◌, ◌≤◌, ◌++◌, length, take}
use Rattle.script_text.specs.Escapes as escapes
use Rattle.script_text.proofs.chunks.put_few.Given as goal

abbrev pub invariant-few : goal.invariant-few
invariant-few l = record { room : l.at + 76 ≤ length l.text; taken : l.taken ≤ 32; within : l.end ≤ l.at + 76; short : l.end ≤ l.at + 4 * l.taken; text : take l.end l.text ≡ take l.at l.initial.text ++ escapes.escaped (take l.taken l.padded) }

abbrev pub decreases-few : goal.decreases-few
decreases-few l = length l.bytes - l.taken
