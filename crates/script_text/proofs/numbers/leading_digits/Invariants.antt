use Rattle.std.proofs.Common.{◌≡◌, ◌<◌, ◌≤◌, ◌^◌, true, take}
use Rattle.std.specs.List.{list_all}
use Rattle.pps_types.specs.Bytes.{is_digit, number_from}
use Rattle.script_text.proofs.numbers.leading_digits.Given as goal

abbrev pub invariant-digits : goal.invariant-digits
invariant-digits l = record {
  count : l.count ≡ l.byte-index;
  few : l.byte-index ≤ 10;
  small : l.number < 10 ^ l.byte-index;
  digits : list_all is_digit (take l.byte-index l.text) ≡ true;
  number : l.number ≡ number_from 0 (take l.byte-index l.text);
}
