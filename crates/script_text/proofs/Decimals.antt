-- Numbers, `0` among them, and their decimal spellings.
use Rattle.std.proofs.Common.{◌≡◌, ℕ, ◌≤◌, ◌<◌, ◌^◌, Bool, true, false, cond, zero, suc, List, get_or, Some, refl, sym, ap, ◌∙◌, arith}
use Rattle.std.specs.Prelude.{codes}
use Rattle.std.specs.Fmt.{decimal}
use Rattle.std.proofs.lemmas.Bool.{false_from_ne_true}
use Rattle.std.proofs.lemmas.Fmt.{decimal_digit, first_decimal, length-decimal-le}
use Rattle.pps_types.specs.Bytes.{same, number_up_to}
use Rattle.pps_types.proofs.Decimals.{number_up_to-decimal, number_up_to-only}
use Rattle.pps_types.proofs.SameBytes.{same-is}
use Rattle.script_text.specs.ScriptLines.{number_to}

-- ---- a number is read from its spelling

-- only the spelling of 0 begins with `0`
is_not_zero : (n : ℕ) → 0 < n → n < 2 ^ 64 → same (decimal n) (codes "0") ≡ false
is_not_zero n some small =
    false_from_ne_true (same (decimal n) (codes "0"))
    (λ is. let spelled = same-is (decimal n) (codes "0") is in omega (arith, first_decimal n some small, ap (λ ds. get_or ds 0 0) spelled))

pub number-decimal : (most n : ℕ) → most < 2 ^ 32 → n ≤ most → number_to most (decimal n) ≡ Some n
unfolding number_to
number-decimal most zero small fits = rw (decimal_digit 0 (omega arith)) refl
number-decimal most (suc k) small fits =
    let n = suc k in
    rw (is_not_zero n (omega arith) (omega arith))
    (number_up_to-decimal 10 most n (omega arith) fits (omega arith) (length-decimal-le 10 n (omega arith) (omega arith) (omega arith)))

-- ---- and from nothing else

pub number-only : (most n : ℕ) (word : List ℕ) → most < 2 ^ 32 → number_to most word ≡ Some n → (n ≤ most) × (word ≡ decimal n)
unfolding number_to
number-only most n word small is = by (same word (codes "0")) refl is
  where
    by : (zero : Bool) → same word (codes "0") ≡ zero → cond zero (Some 0) (number_up_to 10 most word) ≡ Some n → (n ≤ most) × (word ≡ decimal n)
    by true e here =
        let is_zero : 0 ≡ n = cc in
        rw (sym is_zero) (omega arith, same-is word (codes "0") e ∙ sym (decimal_digit 0 (omega arith)))
    by false e here = let only = number_up_to-only 10 most n word (omega arith) here in (only.2, only.0)
