use Rattle.std.proofs.Common.{◌≡◌, get_or, true, arith, rules}
use Rattle.pps_types.specs.Bytes.{is_digit}
use Rattle.pps_types.proofs.Digits.{digit-small, one-digit-more}
use Rattle.pps_types.proofs.number_text.few_digits_up_to.Goals as goal

pub overflow_mul-number : goal.overflow_mul-number
overflow_mul-number c = omega (arith, one-digit-more c.loop-byte.number c.loop-byte.byte-index c.loop-byte.invariant.small (omega arith))

pub overflow_add-number : goal.overflow_add-number
overflow_add-number c =
    let digit : is_digit (get_or c.args.digits.now c.loop-byte.byte-index 0) ≡ true = search rules in
    omega (arith, digit-small (get_or c.args.digits.now c.loop-byte.byte-index 0) digit, one-digit-more c.loop-byte.number c.loop-byte.byte-index c.loop-byte.invariant.small (omega arith))
