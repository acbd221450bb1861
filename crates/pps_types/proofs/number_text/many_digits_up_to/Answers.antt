use Rattle.std.proofs.Common.{◌≡◌, ◌+◌, ◌∙◌, sym, arith, rules, get_or, true}
use Rattle.pps_types.specs.Bytes.{is_digit}
use Rattle.pps_types.proofs.Digits.{digits-stop}
use Rattle.pps_types.proofs.number_text.many_digits_up_to.Goals as goal

pub returns-in_err-tens : goal.returns-in_err-tens
returns-in_err-tens c =
    let ds = c.args.digits.now in
    let i = c.loop-byte.byte-index in
    let digit : is_digit (get_or ds i 0) ≡ true = search rules in
    c.from_residual.ensures ∙ sym (digits-stop (c.args.most + 1) c.loop-byte.number i ds (omega arith) digit (omega (arith, c.in_err-tens.ensures))) ∙ c.loop-byte.invariant.rest

pub returns-in_err-number : goal.returns-in_err-number
returns-in_err-number c =
    let ds = c.args.digits.now in
    let i = c.loop-byte.byte-index in
    let digit : is_digit (get_or ds i 0) ≡ true = search rules in
    c.from_residual-in_err-number.ensures ∙ sym (digits-stop (c.args.most + 1) c.loop-byte.number i ds (omega arith) digit (omega (arith, c.in_err-number.ensures, c.in_ok-tens.ensures))) ∙ c.loop-byte.invariant.rest

pub returns-then-number-most : goal.returns-then-number-most
returns-then-number-most c =
    let ds = c.args.digits.now in
    let i = c.loop-byte.byte-index in
    let digit : is_digit (get_or ds i 0) ≡ true = search rules in
    sym (digits-stop (c.args.most + 1) c.loop-byte.number i ds (omega arith) digit (omega (arith, c.in_ok-number.ensures, c.in_ok-tens.ensures))) ∙ c.loop-byte.invariant.rest
