use Rattle.std.proofs.Common.{◌≡◌, false, drop, is_none}
use Rattle.pps_types.specs.Bytes.{unescaped}
use Rattle.pps_filter.proofs.Before.{before}
use Rattle.pps_filter.proofs.read.read_value.Given as goal

abbrev pub invariant-loop-byte : goal.invariant-loop-byte
invariant-loop-byte l = record {
  closed : is_none (unescaped false l.value) ≡ false;
  rest : before l.bytes.items (unescaped l.escaped (drop l.byte-index l.value)) ≡ unescaped false l.value;
}
