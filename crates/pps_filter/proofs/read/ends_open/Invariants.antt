use Rattle.std.proofs.Common.{◌≡◌, false, drop, is_none}
use Rattle.pps_types.specs.Bytes.{unescaped}
use Rattle.pps_filter.proofs.read.ends_open.Given as goal

abbrev pub invariant-loop-byte : goal.invariant-loop-byte
invariant-loop-byte l = is_none (unescaped l.escaped (drop l.byte-index l.value)) ≡ is_none (unescaped false l.value)
