-- Reading digits one at a time.
use Rattle.std.proofs.Common.{◌≡◌, ℕ, ◌+◌, ◌*◌, ◌-◌, ◌^◌, ◌<◌, ◌≤◌, Bool, true, false, ◌&&◌, List, [], ◌∷◌, length, get_or, drop, Option, Some, None, refl, ◌∙◌, lit<, arith}
use Rattle.std.specs.Prelude.{nat_lt, if◌then◌else◌}
use Rattle.std.specs.List.{list_all}
use Rattle.std.proofs.Math.Nat.{pow-le-pow_right}
use Rattle.std.proofs.lemmas.Bool.Decides.{nat_tests}
use Rattle.std.proofs.lemmas.List.{at_drop_more}
use Rattle.pps_types.specs.Bytes.{is_digit, number_from}

-- what digits give behind a number, where the whole stays below a bound
abbrev pub digits_from : ℕ → ℕ → List ℕ → Option ℕ
digits_from bound n ds = if list_all is_digit ds && nat_lt (number_from n ds) bound then Some (number_from n ds) else None

-- digits only make a number larger
number_from-ge : (n : ℕ) (ds : List ℕ) → n ≤ number_from n ds
number_from-ge n [] = omega arith
number_from-ge n (d ∷ ds) = let more = number_from-ge (10 * n + (d - 48)) ds in omega arith

digits_from-digit : (bound n d : ℕ) (ds : List ℕ) → is_digit d ≡ true → digits_from bound n (d ∷ ds) ≡ digits_from bound (10 * n + (d - 48)) ds
digits_from-digit bound n d ds digit = rw digit

large : (all below : Bool) (m : ℕ) → below ≡ false → (if all && below then Some m else None) ≡ None
large true below m h = rw h
large false below m h = refl

digits_from-large : (bound n : ℕ) (ds : List ℕ) → bound ≤ n → digits_from bound n ds ≡ None
digits_from-large bound n ds h =
    let more = number_from-ge n ds in
    large (list_all is_digit ds) (nat_lt (number_from n ds) bound) (number_from n ds) (grind (arith, nat_tests))

-- one digit on
digits-digit : (bound n i : ℕ) (ds : List ℕ) → i < length ds → is_digit (get_or ds i 0) ≡ true → digits_from bound n (drop i ds) ≡ digits_from bound (10 * n + (get_or ds i 0 - 48)) (drop (i + 1) ds)
digits-digit bound n i ds within digit = at_drop_more (digits_from bound n) ds i 0 within ∙ digits_from-digit bound n (get_or ds i 0) (drop (i + 1) ds) digit

-- a digit makes the number too large, however the rest goes on
pub digits-stop : (bound n i : ℕ) (ds : List ℕ) → i < length ds → is_digit (get_or ds i 0) ≡ true → bound ≤ 10 * n + (get_or ds i 0 - 48) → digits_from bound n (drop i ds) ≡ None
digits-stop bound n i ds within digit large =
    digits-digit bound n i ds within digit ∙ digits_from-large bound (10 * n + (get_or ds i 0 - 48)) (drop (i + 1) ds) large

-- after few enough digits one more makes no number that needs over 64 bits
pub one-digit-more : (n i : ℕ) → n < 10 ^ i → i < 19 → 10 * n + 9 < 2 ^ 64
one-digit-more n i small few =
    let largest : 10 ^ i ≤ 10 ^ 18 = pow-le-pow_right {n = 10} (lit< tt) {i = i} {j = 18} (omega arith) in
    omega arith

-- a digit is at most nine
pub digit-small : (d : ℕ) → is_digit d ≡ true → d - 48 ≤ 9
digit-small d digit = grind (arith, nat_tests)
