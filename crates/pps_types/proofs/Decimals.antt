-- Numbers and their decimal spellings.
use Rattle.std.proofs.Common.{◌≡◌, ℕ, ◌<◌, ◌≤◌, ◌^◌, Bool, true, false, cond, not, ◌&&◌, eqb, zero, suc, List, [], ◌∷◌, length, get_or, Some, None, refl, sym, ap, ◌∙◌, arith, rules}
use Rattle.std.specs.Prelude.{nat_le}
use Rattle.std.specs.List.{list_all}
use Rattle.std.specs.Fmt.{decimal}
use Rattle.std.proofs.lemmas.Bool.Decides.{nat_tests}
use Rattle.std.proofs.lemmas.Fmt.{decimal_digit, decimal_nonempty, first_decimal, digits_decimal, digits_value-decimal, decimal-digits_value}
use Rattle.std.proofs.lemmas.Str.Parse.{IsNumeralModel, numerals_by_fold}
use Rattle.pps_types.specs.Bytes.{is_digit, starts_with, number_from, number_up_to}

own : IsNumeralModel (λ ds. list_all is_digit ds ≡ true) (number_from 0)
own = numerals_by_fold _ (search rules) number_from (search rules)

pub decimal-digits : (n : ℕ) → n < 2 ^ 64 → list_all is_digit (decimal n) ≡ true
decimal-digits n small = digits_decimal own n small

pub value-decimal : (n : ℕ) → n < 2 ^ 64 → number_from 0 (decimal n) ≡ n
value-decimal n small = digits_value-decimal own n small

-- ---- a number is read from its spelling

-- digits that do not begin with `0`
reads_from : (digits most n : ℕ) (ds : List ℕ) → list_all is_digit ds ≡ true → 0 < length ds → length ds ≤ digits → 48 < get_or ds 0 0 → number_from 0 ds ≡ n → n ≤ most → number_up_to digits most ds ≡ Some n
reads_from digits most n [] all some short first value fits = absurd (omega arith)
reads_from digits most n (d ∷ ds) all some short first value fits =
    let other : eqb d 48 ≡ false = grind (arith, nat_tests) in
    let few : nat_le (length (d ∷ ds)) digits ≡ true = grind (arith, nat_tests) in
    let small : nat_le (number_from 0 (d ∷ ds)) most ≡ true = grind (arith, nat_tests) in
    rw (other, all, few, small) (ap Some value)

pub number_up_to-decimal : (digits most n : ℕ) → 1 ≤ n → n ≤ most → n < 2 ^ 64 → length (decimal n) ≤ digits → number_up_to digits most (decimal n) ≡ Some n
number_up_to-decimal digits most n least within small short =
    reads_from digits most n (decimal n) (decimal-digits n small) (decimal_nonempty n small) short (first_decimal n least small) (value-decimal n small) within

-- ---- and from nothing else

pub number_up_to-only : (digits most n : ℕ) (bs : List ℕ) → most < 2 ^ 64 → number_up_to digits most bs ≡ Some n → (bs ≡ decimal n) × (1 ≤ n) × (n ≤ most)
number_up_to-only digits most n [] small e = absurd cc
number_up_to-only digits most n (d ∷ ds) small e =
    by (list_all is_digit (d ∷ ds)) (nat_le (length (d ∷ ds)) digits) (starts_with 48 (d ∷ ds)) (nat_le (number_from 0 (d ∷ ds)) most) refl refl refl e
  where
    by : (all short lead fits : Bool) → list_all is_digit (d ∷ ds) ≡ all → starts_with 48 (d ∷ ds) ≡ lead → nat_le (number_from 0 (d ∷ ds)) most ≡ fits
        → cond (all && short && not lead && fits) (Some (number_from 0 (d ∷ ds))) None ≡ Some n → (d ∷ ds ≡ decimal n) × (1 ≤ n) × (n ≤ most)
    by true true false true a f w h =
        let value : number_from 0 (d ∷ ds) ≡ n = cc in
        let within : number_from 0 (d ∷ ds) ≤ most = grind (arith, nat_tests) in
        let spelled : decimal (number_from 0 (d ∷ ds)) ≡ d ∷ ds = decimal-digits_value own (d ∷ ds) a (omega arith) (λ is. absurd (grind (arith, nat_tests, is, f))) (omega arith) in
        let is : d ∷ ds ≡ decimal n = sym spelled ∙ ap decimal value in
        (is, positive n is, omega (arith, within, value))
      where
        positive : (n : ℕ) → d ∷ ds ≡ decimal n → 1 ≤ n
        positive zero is = absurd (let h : d ∷ ds ≡ 48 ∷ [] = is ∙ decimal_digit 0 (omega arith) in let g : d ≡ 48 = cc in grind (arith, nat_tests, g, f))
        positive (suc k) is = omega arith
    by false short lead fits a f w h = absurd cc
    by true false lead fits a f w h = absurd cc
    by true true true fits a f w h = absurd cc
    by true true false false a f w h = absurd cc
