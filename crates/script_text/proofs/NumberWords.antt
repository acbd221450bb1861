-- Numbers, by the digits at the front of a text.
use Rattle.std.proofs.Common.{◌≡◌, ℕ, ◌+◌, ◌*◌, ◌-◌, ◌^◌, ◌<◌, ◌≤◌, zero, suc, Bool, true, false, not, ◌&&◌, cond, List, [], ◌∷◌, ◌++◌, length, take, drop, get_or, Option, Some, None, unwrap_or, refl, sym, ap, subst, ◌∙◌, add-one, arith}
use Rattle.std.specs.Prelude.{◌==◌, option_map, option_and_then, nat_lt, nat_le, codes}
use Rattle.std.specs.List.{list_all}
use Rattle.std.proofs.lemmas.Bool.Decides.{nat_tests}
use Rattle.std.proofs.lemmas.List.Folds.{list_all-append, list_all_more}
use Rattle.std.proofs.lemmas.List.{take_more, drop-drop, take-append-drop, length-append, length-take-le}
use Rattle.std.proofs.lemmas.Bool.{cases_lt}
use Rattle.std.proofs.Common.{length-drop, append-nil, inl, inr}
use Rattle.std.proofs.Math.Nat.{pow-succ'}
use Rattle.pps_types.specs.Bytes.{is_digit, is_digits, is_empty, same, starts_with, number_from, split_at_first}
use Rattle.script_text.specs.ScriptLines.{number_to, number_word, first_word, handle_and_rest}
use Rattle.script_text.specs.declared.numbers.Digits.{Digits}
use Rattle.script_text.specs.Digits.{AreLeading, starts_with_digit}

no-space : (d : ℕ) → is_digit d ≡ true → (d == 32) ≡ false
no-space d digit = grind (arith, nat_tests)

first-true : (a b : Bool) → (a && b) ≡ true → a ≡ true
first-true true b h = refl
first-true false b h = absurd (let x = h in cc)

second-true : (a b : Bool) → (a && b) ≡ true → b ≡ true
second-true true b h = h
second-true false b h = absurd (let x = h in cc)

-- a word that begins with these bytes
abbrev onto : List ℕ → Option (List ℕ × List ℕ) → Option (List ℕ × List ℕ)
onto bs parts = option_map {U = List ℕ × List ℕ} (λ p. (bs ++ p.0, p.1)) parts

onto-none : (o : Option (List ℕ × List ℕ)) → o ≡ onto [] o
onto-none None = refl
onto-none (Some p) = refl

onto-more : (d : ℕ) (ds : List ℕ) (o : Option (List ℕ × List ℕ)) → onto (d ∷ []) (onto ds o) ≡ onto (d ∷ ds) o
onto-more d ds None = refl
onto-more d ds (Some p) = refl

-- no digit is a space
pub split-digits : (ds rest : List ℕ) → list_all is_digit ds ≡ true → split_at_first 32 (ds ++ rest) ≡ onto ds (split_at_first 32 rest)
split-digits [] rest all = onto-none (split_at_first 32 rest)
split-digits (d ∷ ds) rest all =
    rw (no-space d (first-true (is_digit d) (list_all is_digit ds) all), split-digits ds rest (second-true (is_digit d) (list_all is_digit ds) all))
    (onto-more d ds (split_at_first 32 rest))

-- one digit more
number_from-more : (n : ℕ) (ds : List ℕ) (d : ℕ) → number_from n (ds ++ d ∷ []) ≡ 10 * number_from n ds + (d - 48)
number_from-more n [] d = refl
number_from-more n (e ∷ ds) d = number_from-more (10 * n + (e - 48)) ds d

pub spelled-more : (ds : List ℕ) (i number : ℕ) → i < length ds → number ≡ number_from 0 (take i ds) → 10 * number + (get_or ds i 0 - 48) ≡ number_from 0 (take (i + 1) ds)
spelled-more ds i number within is = rw (is, take_more ds i 0 within) (sym (number_from-more 0 (take i ds) (get_or ds i 0)))

pub digits-more : (ds : List ℕ) (i : ℕ) → i < length ds → list_all is_digit (take i ds) ≡ true → is_digit (get_or ds i 0) ≡ true → list_all is_digit (take (i + 1) ds) ≡ true
digits-more ds i within all digit = rw (list_all_more is_digit ds i 0 within, all, digit) refl

pub small-more : (n i d : ℕ) → n < 10 ^ i → d ≤ 9 → 10 * n + d < 10 ^ (i + 1)
small-more n i d small digit = subst (λ k. 10 * n + d < 10 ^ k) (sym (add-one i)) (omega (arith, small, digit, pow-succ' 10 i))

-- ---- what digits spell

long : (d e : ℕ) (ds : List ℕ) → same (d ∷ e ∷ ds) (codes "0") ≡ false
long d e ds = by (d == 48)
  where
    by : (b : Bool) → (b && false) ≡ false
    by true = refl
    by false = refl

-- the number, if it is at most that large
abbrev pub at_most : ℕ → ℕ → Option ℕ
at_most most n = cond (nat_le n most) (Some n) None

one-digit : (most d : ℕ) → is_digit d ≡ true → number_to most (d ∷ []) ≡ at_most most (number_from 0 (d ∷ []))
unfolding number_to
one-digit most d digit = by (d == 48) refl
  where
    by : (b : Bool) → (d == 48) ≡ b → number_to most (d ∷ []) ≡ at_most most (number_from 0 (d ∷ []))
    by true e =
        let is : d ≡ 48 = grind (arith, nat_tests) in
        let least : nat_le 0 most ≡ true = grind (arith, nat_tests) in
        rw (is, least) refl
    by false e = rw (e, digit) refl

-- digits spell a number, but for a leading zero
pub spell : (most : ℕ) (ds : List ℕ) → list_all is_digit ds ≡ true → length ds ≤ 10 → 0 < length ds → (nat_lt 1 (length ds) && starts_with 48 ds) ≡ false
    → number_to most ds ≡ at_most most (number_from 0 ds)
unfolding number_to
spell most [] all few some no_zero = absurd (omega arith)
spell most (d ∷ []) all few some no_zero = one-digit most d (first-true (is_digit d) true all)
spell most (d ∷ e ∷ ds) all few some no_zero =
    let several : nat_lt 1 (length (d ∷ e ∷ ds)) ≡ true = grind (arith, nat_tests) in
    let first : (d == 48) ≡ false = rw several at no_zero in
    let fit : nat_le (length (d ∷ e ∷ ds)) 10 ≡ true = grind (arith, nat_tests) in
    rw (long d e ds, all, fit, first) refl

first-fails : (a b c d : Bool) (n : ℕ) → cond (a && false && b && c && d) (Some n) None ≡ None
first-fails true b c d n = refl
first-fails false b c d n = refl

second-fails : (a b c : Bool) (n : ℕ) → cond (a && false && b && c) (Some n) None ≡ None
second-fails true b c n = refl
second-fails false b c n = refl

third-fails : (a b : Bool) (n : ℕ) → cond (a && false && b) (Some n) None ≡ None
third-fails true b n = refl
third-fails false b n = refl

-- none do with a leading zero
pub spell-zero : (most : ℕ) (ds : List ℕ) → (nat_lt 1 (length ds) && starts_with 48 ds) ≡ true → number_to most ds ≡ None
unfolding number_to
spell-zero most [] zeros = absurd (let h = zeros in cc)
spell-zero most (d ∷ []) zeros = absurd (let h = zeros in cc)
spell-zero most (d ∷ e ∷ ds) zeros =
    let ws = d ∷ e ∷ ds in
    let first : (d == 48) ≡ true = second-true (nat_lt 1 (length ws)) (d == 48) zeros in
    rw (long d e ds, first) (third-fails (is_digits ws && nat_le (length ws) 10) (nat_le (number_from 0 ws) most) (number_from 0 ws))

pub spell-none : (most : ℕ) → number_to most [] ≡ None
unfolding number_to
spell-none most = refl

-- ---- what is no number

not-zero : (ds : List ℕ) (b : ℕ) (bs : List ℕ) → is_digit b ≡ false → same (ds ++ b ∷ bs) (codes "0") ≡ false
not-zero [] b bs other = let is : (b == 48) ≡ false = grind (arith, nat_tests) in rw is refl
not-zero (d ∷ []) b bs other = long d b bs
not-zero (d ∷ e ∷ ds) b bs other = long d e (ds ++ b ∷ bs)

-- another byte after digits
pub no-number : (most : ℕ) (ds : List ℕ) (b : ℕ) (bs : List ℕ) → is_digit b ≡ false → number_to most (ds ++ b ∷ bs) ≡ None
unfolding number_to
no-number most ds b bs other =
    let ws = ds ++ b ∷ bs in
    let some : list_all is_digit ws ≡ false = list_all-append is_digit ds (b ∷ bs) ∙ rw other (by (list_all is_digit ds)) in
    rw (not-zero ds b bs other, some)
    (first-fails (not (is_empty ws)) (nat_le (length ws) 10) (not (starts_with 48 ws)) (nat_le (number_from 0 ws) most) (number_from 0 ws))
  where
    by : (a : Bool) → (a && false) ≡ false
    by true = refl
    by false = refl

-- more than ten digits
pub too-long : (most : ℕ) (ds : List ℕ) → 10 < length ds → number_to most ds ≡ None
unfolding number_to
too-long most [] many = absurd (omega arith)
too-long most (d ∷ []) many = absurd (omega arith)
too-long most (d ∷ e ∷ ds) many =
    let ws = d ∷ e ∷ ds in
    let more : nat_le (length ws) 10 ≡ false = grind (arith, nat_tests) in
    rw (long d e ds, more) (second-fails (is_digits ws) (not (starts_with 48 ws)) (nat_le (number_from 0 ws) most) (number_from 0 ws))

-- ---- a text and its leading digits

-- some of a text starts as all of it does
pub starts-alike : (b : ℕ) (ds : List ℕ) (n : ℕ) → 0 < n → starts_with b (take n ds) ≡ starts_with b ds
starts-alike b [] zero some = absurd (omega arith)
starts-alike b [] (suc n) some = refl
starts-alike b (d ∷ ds) zero some = absurd (omega arith)
starts-alike b (d ∷ ds) (suc n) some = refl

pub fits : (most n : ℕ) → n ≤ most → at_most most n ≡ Some n
fits most n le = let is : nat_le n most ≡ true = grind (arith, nat_tests) in rw is refl

pub too-large : (most n : ℕ) → most < n → at_most most n ≡ None
too-large most n lt = let is : nat_le n most ≡ false = grind (arith, nat_tests) in rw is refl

zero-leads : (text : List ℕ) (d : Digits) → AreLeading text d → 0 < d.count
    → (nat_lt 1 (length (take d.count text)) && starts_with 48 (take d.count text)) ≡ (nat_lt 1 d.count && starts_with 48 text)
zero-leads text d leading some = rw (length-take-le d.count text leading.within, starts-alike 48 text d.count some) refl

-- the leading digits spell their number
pub spell-leading : (most : ℕ) (text : List ℕ) (d : Digits) → AreLeading text d → 0 < d.count → (nat_lt 1 d.count && starts_with 48 text) ≡ false
    → number_to most (take d.count text) ≡ at_most most d.number
spell-leading most text d leading some no_zero =
    let long = length-take-le d.count text leading.within in
    spell most (take d.count text) leading.digits (omega (arith, long, leading.few)) (omega (arith, long, some)) (zero-leads text d leading some ∙ no_zero)
    ∙ ap (at_most most) (sym leading.number)

pub spell-leading-zero : (most : ℕ) (text : List ℕ) (d : Digits) → AreLeading text d → 0 < d.count → (nat_lt 1 d.count && starts_with 48 text) ≡ true
    → number_to most (take d.count text) ≡ None
spell-leading-zero most text d leading some zeros = spell-zero most (take d.count text) (zero-leads text d leading some ∙ zeros)

-- ---- texts that are no number

-- a text that goes on after its leading digits
abbrev GoesOn : List ℕ → List ℕ → Type 0
GoesOn ds rest = (length ds ≤ 10) × (length ds < 10 → starts_with_digit rest ≡ false) × (0 < length rest)

none-of : (most : ℕ) (ds rest : List ℕ) → GoesOn ds rest → number_to most (ds ++ rest) ≡ None
none-of most ds [] goes = absurd (let some = goes.2 in omega (arith, some))
none-of most ds (b ∷ bs) goes =
    elim (cases_lt (length ds) 10) [
      | inl few ↦ no-number most ds b bs (goes.1 few)
      | inr many ↦ too-long most (ds ++ b ∷ bs) (omega (arith, many, length-append ds (b ∷ bs)))
    ]

goes-on : (text : List ℕ) (d : Digits) → AreLeading text d → d.count < length text → GoesOn (take d.count text) (drop d.count text)
goes-on text d leading more =
    let long = length-take-le d.count text leading.within in
    (omega (arith, long, leading.few), λ few. leading.all (omega (arith, long, few)), omega (arith, more, length-drop d.count text))

pub not-whole : (most : ℕ) (text : List ℕ) (d : Digits) → AreLeading text d → d.count < length text → number_to most text ≡ None
not-whole most text d leading more =
    ap (number_to most) (sym (take-append-drop d.count text)) ∙ none-of most (take d.count text) (drop d.count text) (goes-on text d leading more)

-- ---- the first word

-- the number that a word spells, and what comes after it
abbrev word_number : ℕ → Option (List ℕ × List ℕ) → Option (ℕ × List ℕ)
word_number most parts = option_and_then (λ p. option_map {U = ℕ × List ℕ} (λ n. (n, p.1)) (number_to most p.0)) parts

word-is : (most : ℕ) (text : List ℕ) (d : Digits) → AreLeading text d
    → number_word most text ≡ word_number most (onto (take d.count text) (split_at_first 32 (drop d.count text)))
word-is most text d leading =
    ap (λ bs. word_number most (split_at_first 32 bs)) (sym (take-append-drop d.count text))
    ∙ ap (word_number most) (split-digits (take d.count text) (drop d.count text) leading.digits)

-- no word that goes on after digits is a number
no-word : (most : ℕ) (ds rest : List ℕ) → GoesOn ds rest → starts_with 32 rest ≡ false → word_number most (onto ds (split_at_first 32 rest)) ≡ None
no-word most ds [] goes other = refl
no-word most ds (b ∷ bs) goes other = rw other (by (split_at_first 32 bs))
  where
    by : (o : Option (List ℕ × List ℕ)) → word_number most (onto ds (option_map (λ p. (b ∷ p.0, p.1)) o)) ≡ None
    by None = refl
    by (Some p) = ap (option_map {U = ℕ × List ℕ} (λ n. (n, p.1))) (none-of most ds (b ∷ p.0) (goes.0, goes.1, omega arith))

pub not-word : (most : ℕ) (text : List ℕ) (d : Digits) → AreLeading text d → starts_with 32 (drop d.count text) ≡ false → number_word most text ≡ None
not-word most text d leading other = word-is most text d leading ∙ by (drop d.count text) refl
  where
    by : (rest : List ℕ) → drop d.count text ≡ rest → word_number most (onto (take d.count text) (split_at_first 32 (drop d.count text))) ≡ None
    by [] is = rw is refl
    by (b ∷ bs) is =
        let more : d.count < length text = let long = length-drop d.count text ∙ refl in omega (arith, sym long ∙ ap length is) in
        no-word most (take d.count text) (drop d.count text) (goes-on text d leading more) other

-- a word of digits is the number that they spell
pub whole-word : (most : ℕ) (text : List ℕ) (d : Digits) → AreLeading text d → starts_with 32 (drop d.count text) ≡ true
    → number_word most text ≡ option_map {U = ℕ × List ℕ} (λ n. (n, drop (d.count + 1) text)) (number_to most (take d.count text))
whole-word most text d leading space = word-is most text d leading ∙ by (drop d.count text) refl
  where
    by : (rest : List ℕ) → drop d.count text ≡ rest → word_number most (onto (take d.count text) (split_at_first 32 (drop d.count text)))
        ≡ option_map {U = ℕ × List ℕ} (λ n. (n, drop (d.count + 1) text)) (number_to most (take d.count text))
    by [] is = absurd (let h = rw is at space in cc)
    by (b ∷ bs) is =
        let first : (b == 32) ≡ true = rw is at space in
        let after : drop (d.count + 1) text ≡ bs = sym (drop-drop 1 d.count text) ∙ ap (drop 1) is in
        rw (is, first, after, append-nil (take d.count text)) refl

-- ---- with or without a word behind it

word-of : (w v x y : List ℕ) → ◌≡◌ {A = Option (List ℕ × List ℕ)} (Some (w, x)) (Some (v, y)) → v ≡ w
word-of w v x y e = sym (ap (λ o. (unwrap_or {T = List ℕ × List ℕ} o (w, x)).0) e)

rest-of : (w v x y : List ℕ) → ◌≡◌ {A = Option (List ℕ × List ℕ)} (Some (w, x)) (Some (v, y)) → y ≡ x
rest-of w v x y e = sym (ap (λ o. (unwrap_or {T = List ℕ × List ℕ} o (w, x)).1) e)

split-is : (text before after : List ℕ) → split_at_first 32 text ≡ Some (before, after) → text ≡ before ++ 32 ∷ after
split-is [] before after cut = absurd (let h = cut in cc)
split-is (b ∷ bs) before after cut = by (b == 32) refl (split_at_first 32 bs) (λ w r. split-is bs w r) cut
  where
    by : (space : Bool) → (b == 32) ≡ space → (o : Option (List ℕ × List ℕ)) → ((w r : List ℕ) → o ≡ Some (w, r) → bs ≡ w ++ 32 ∷ r)
        → cond space (Some ([], bs)) (option_map {U = List ℕ × List ℕ} (λ p. (b ∷ p.0, p.1)) o) ≡ Some (before, after) → b ∷ bs ≡ before ++ 32 ∷ after
    by true is o more cut =
        let space : b ≡ 32 = grind (arith, nat_tests) in
        rw (word-of [] before bs after cut, rest-of [] before bs after cut, space) refl
    by false is None more cut = absurd (let h = cut in cc)
    by false is (Some p) more cut =
        rw (word-of (b ∷ p.0) before p.1 after cut, rest-of (b ∷ p.0) before p.1 after cut) (ap (λ all. b ∷ all) (more p.0 p.1 refl))

pub handle-alone : (text : List ℕ) (n : ℕ) → None ≡ number_word 4294967295 text → Some n ≡ number_to 4294967295 text → Some (n, []) ≡ handle_and_rest text
handle-alone text n no_word is = by (first_word text) refl
  where
    by : (parts : Option (List ℕ × List ℕ)) → first_word text ≡ parts → Some (n, []) ≡ handle_and_rest text
    by None cut = rw (cut, sym is) refl
    by (Some p) cut = absurd (let h = is ∙ ap (number_to 4294967295) (split-is text p.0 p.1 cut) ∙ no-number 4294967295 p.0 32 p.1 refl in cc)
