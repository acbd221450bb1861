-- Numbers below 2^32, and their plain spellings.
use Rattle.std.proofs.Common.{◌≡◌, ◌≤◌, ◌<◌, ◌^◌, ℕ, zero, suc, Bool, true, false, List, Some, None, refl, sym, ap, ◌∙◌, arith, nat_lt}
use Rattle.std.specs.Prelude.{codes}
use Rattle.std.specs.Fmt.{decimal}
use Rattle.std.proofs.lemmas.Bool.Decides.{nat_tests}
use Rattle.std.proofs.lemmas.Fmt.{decimal_digit, length-decimal-le}
use Rattle.pps_types.specs.Bytes.{same, number_up_to}
use Rattle.pps_types.specs.Image.{plain_number}
use Rattle.pps_types.proofs.Decimals.{number_up_to-decimal, number_up_to-only}
use Rattle.image_laws.proofs.Numbers.{plain_number-decimal, plain_number-only}

pub zero-is-plain : plain_number (codes "0") ≡ Some 0
zero-is-plain = ap plain_number (sym (decimal_digit 0 (omega arith))) ∙ plain_number-decimal 0 (omega arith)

pub read-is-plain : (bs : List ℕ) (n : ℕ) → number_up_to 10 4294967295 bs ≡ Some n → plain_number bs ≡ Some n
read-is-plain bs n is =
    let only = number_up_to-only 10 4294967295 n bs (omega arith) is in
    ap plain_number only.0 ∙ plain_number-decimal n (omega (arith, only.2))

-- what was not read is no plain number, or a great one
pub unread-is-great : (bs : List ℕ) (n : ℕ) → same bs (codes "0") ≡ false → number_up_to 10 4294967295 bs ≡ None → plain_number bs ≡ Some n → 2 ^ 32 ≤ n
unread-is-great bs n differs unread is = by n (plain_number-only n bs is) (nat_lt n 4294967296) refl
  where
    by : (n : ℕ) → bs ≡ decimal n → (small : Bool) → nat_lt n 4294967296 ≡ small → 2 ^ 32 ≤ n
    by zero spelled true e = let is_zero : same bs (codes "0") ≡ true = ap (λ b. same b (codes "0")) (spelled ∙ decimal_digit 0 (omega arith)) in absurd cc
    by (suc k) spelled true e =
        let less : suc k < 4294967296 = grind (arith, nat_tests) in
        let read = ap (number_up_to 10 4294967295) spelled ∙ number_up_to-decimal 10 4294967295 (suc k) (omega arith) (omega (arith, less)) (omega (arith, less)) (length-decimal-le 10 (suc k) (omega arith) (omega (arith, less)) (omega (arith, less))) in
        absurd cc
    by n spelled false e = grind (arith, nat_tests)
