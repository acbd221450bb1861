use Rattle.std.proofs.Common.{◌≡◌, ◌+◌, ◌<◌, ◌^◌, drop}
use Rattle.pps_types.specs.Filter.{digits_below}
use Rattle.pps_types.proofs.Digits.{digits_from}
use Rattle.pps_types.proofs.number_text.few_digits_up_to.Given as goal

abbrev pub invariant-loop-byte : goal.invariant-loop-byte
invariant-loop-byte l = record {
  small : l.number < 10 ^ l.byte-index;
  rest : digits_from (l.most + 1) l.number (drop l.byte-index l.digits) ≡ digits_below (l.most + 1) l.digits;
}
