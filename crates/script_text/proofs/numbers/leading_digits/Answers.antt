use Rattle.std.proofs.Common.{◌≡◌, ◌-◌, rules, get_or, true}
use Rattle.pps_types.specs.Bytes.{is_digit}
use Rattle.pps_types.proofs.Digits.{digit-small}
use Rattle.script_text.proofs.NumberWords.{spelled-more, digits-more, small-more}
use Rattle.script_text.proofs.numbers.leading_digits.Goals as goal

pub digits-preserved : goal.digits-preserved
digits-preserved c =
    let ds = c.args.text.now in
    let i = c.digits.byte-index in
    let digit : is_digit (get_or ds i 0) ≡ true = search rules in
    let from : c.from.result ≡ get_or ds i 0 - 48 = search rules in
    record {
      count = search rules;
      few = search rules;
      small = rw from (small-more c.digits.number i _ c.digits.invariant.small (digit-small (get_or ds i 0) digit));
      digits = digits-more ds i (search rules) c.digits.invariant.digits digit;
      number = rw from (spelled-more ds i c.digits.number (search rules) c.digits.invariant.number);
    }
