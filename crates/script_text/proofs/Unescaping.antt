-- Reading escapes one at a time, each behind the bytes before its backslash.
use Rattle.std.proofs.Common.{◌≡◌, ℕ, ◌+◌, ◌<◌, Bool, true, false, cond, List, [], ◌∷◌, ◌++◌, length, Option, Some, None, unwrap_or, refl, sym, ap, ◌∙◌, append_assoc, arith}
use Rattle.std.specs.Prelude.{option_map, option_and_then, ◌==◌}
use Rattle.std.specs.Option.{option_to_list}
use Rattle.pps_types.specs.Bytes.{split_at_first}
use Rattle.script_text.specs.Escapes.{Place, Plain, Escape, FirstDigit, hex_byte, unescaped_from, unescaped, digits_of, escape_of}

-- what was read so far, and then the rest
abbrev pub before : List ℕ → Option (List ℕ) → Option (List ℕ)
before read rest = option_map (λ more. read ++ more) rest

join : (xs ys : List ℕ) (o : Option (List ℕ)) → before xs (before ys o) ≡ before (xs ++ ys) o
join xs ys None = refl
join xs ys (Some rest) = ap Some (sym (append_assoc xs ys rest))

-- what one byte says, and then the rest
abbrev after_one : List ℕ → Option (Option ℕ × Place) → Option (List ℕ)
after_one bs one = option_and_then (λ o. option_map (λ rest. option_to_list o.0 ++ rest) (unescaped_from o.1 bs)) one

second : {X : Type 0} (a b : X) (x y : List ℕ) → ◌≡◌ {A = Option (X × List ℕ)} (Some (a, x)) (Some (b, y)) → x ≡ y
second {X} a b x y e = ap (λ o. (unwrap_or {T = X × List ℕ} o (a, x)).1) e

first : {X : Type 0} (a b : X) (x y : List ℕ) → ◌≡◌ {A = Option (X × List ℕ)} (Some (a, x)) (Some (b, y)) → a ≡ b
first {X} a b x y e = ap (λ o. (unwrap_or {T = X × List ℕ} o (a, x)).0) e

behind-none : (o : Option (List ℕ)) → before [] o ≡ o
behind-none None = refl
behind-none (Some rest) = refl

-- ---- an escape

-- the byte of an escape, and then the rest
abbrev pub with_escape : Option (ℕ × List ℕ) → Option (List ℕ)
with_escape parts = option_and_then (λ p. option_map (λ rest. p.0 ∷ rest) (unescaped p.1)) parts

from-digits : (byte : Option ℕ) (bs : List ℕ)
    → after_one bs (option_map (λ b. (Some b, Plain)) byte)
    ≡ with_escape (option_map (λ b. (b, bs)) byte)
from-digits None bs = refl
from-digits (Some b) bs = refl

digits-is : (bs : List ℕ) → unescaped_from FirstDigit bs ≡ with_escape (digits_of bs)
digits-is [] = refl
digits-is (high ∷ []) = refl
digits-is (high ∷ low ∷ bs) = behind-none _ ∙ from-digits (hex_byte high low) bs

escape-is : (bs : List ℕ) → unescaped_from Escape bs ≡ with_escape (escape_of bs)
escape-is [] = refl
escape-is (b ∷ bs) = by (b == 110) (b == 92) (b == 120)
  where
    by : (feed slash digits : Bool)
        → after_one bs (cond feed (Some (Some 10, Plain)) (cond slash (Some (Some 92, Plain)) (cond digits (Some (None, FirstDigit)) None)))
        ≡ with_escape (cond feed (Some (10, bs)) (cond slash (Some (92, bs)) (cond digits (digits_of bs) None)))
    by true slash digits = refl
    by false true digits = refl
    by false false true = behind-none _ ∙ digits-is bs
    by false false false = refl

-- ---- up to a backslash

-- the bytes before a backslash, and what its escape and the rest say
abbrev at_backslash : List ℕ → Option (List ℕ × List ℕ) → Option (List ℕ)
at_backslash text None = Some text
at_backslash text (Some parts) = before parts.0 (unescaped_from Escape parts.1)

one-more : (b : ℕ) (bs : List ℕ) (cut : Option (List ℕ × List ℕ)) → option_map (λ rest. b ∷ rest) (at_backslash bs cut) ≡ at_backslash (b ∷ bs) (option_map (λ parts. (b ∷ parts.0, parts.1)) cut)
one-more b bs None = refl
one-more b bs (Some parts) = by (unescaped_from Escape parts.1)
  where
    by : (o : Option (List ℕ)) → option_map (λ rest. b ∷ rest) (before parts.0 o) ≡ before (b ∷ parts.0) o
    by None = refl
    by (Some rest) = refl

unescaped-is : (text : List ℕ) → unescaped text ≡ at_backslash text (split_at_first 92 text)
unescaped-is [] = refl
unescaped-is (b ∷ bs) = by (b == 92) (unescaped-is bs)
  where
    by : (slash : Bool) → unescaped bs ≡ at_backslash bs (split_at_first 92 bs)
        → after_one bs (cond slash (Some (None, Escape)) (Some (Some b, Plain)))
        ≡ at_backslash (b ∷ bs) (cond slash (Some ([], bs)) (option_map (λ parts. (b ∷ parts.0, parts.1)) (split_at_first 92 bs)))
    by true rest = refl
    by false rest = ap (option_map (λ more. b ∷ more)) rest ∙ one-more b bs (split_at_first 92 bs)

-- ---- the steps of the loop

-- no backslash is left
pub unescaped-all : (read rest : List ℕ) (all : Option (List ℕ)) → before read (unescaped rest) ≡ all → None ≡ split_at_first 92 rest → Some (read ++ rest) ≡ all
unescaped-all read rest all so_far none = ap (λ cut. before read (at_backslash rest cut)) none ∙ ap (before read) (sym (unescaped-is rest)) ∙ so_far

at-escape : (read rest plain escape : List ℕ) (all : Option (List ℕ)) → before read (unescaped rest) ≡ all → ◌≡◌ {A = Option (List ℕ × List ℕ)} (Some (plain, escape)) (split_at_first 92 rest)
    → before (read ++ plain) (with_escape (escape_of escape)) ≡ all
at-escape read rest plain escape all so_far cut =
    ap (before (read ++ plain)) (sym (escape-is escape)) ∙ sym (join read plain (unescaped_from Escape escape))
    ∙ ap (λ c. before read (at_backslash rest c)) cut ∙ ap (before read) (sym (unescaped-is rest)) ∙ so_far

-- no escape stands behind the backslash
pub unescaped-bad : (read rest plain escape : List ℕ) (all : Option (List ℕ)) → before read (unescaped rest) ≡ all → ◌≡◌ {A = Option (List ℕ × List ℕ)} (Some (plain, escape)) (split_at_first 92 rest)
    → None ≡ escape_of escape → None ≡ all
unescaped-bad read rest plain escape all so_far cut bad =
    ap (λ e. before (read ++ plain) (with_escape e)) bad ∙ at-escape read rest plain escape all so_far cut

-- an escape on
pub unescaped-more : (read rest plain escape behind : List ℕ) (byte : ℕ) (all : Option (List ℕ)) → before read (unescaped rest) ≡ all → ◌≡◌ {A = Option (List ℕ × List ℕ)} (Some (plain, escape)) (split_at_first 92 rest)
    → ◌≡◌ {A = Option (ℕ × List ℕ)} (Some (byte, behind)) (escape_of escape) → before ((read ++ plain) ++ byte ∷ []) (unescaped behind) ≡ all
unescaped-more read rest plain escape behind byte all so_far cut is =
    sym (join (read ++ plain) (byte ∷ []) (unescaped behind))
    ∙ ap (λ e. before (read ++ plain) (with_escape e)) is ∙ at-escape read rest plain escape all so_far cut

-- ---- what is left is shorter

split-shorter : (text plain escape : List ℕ) → ◌≡◌ {A = Option (List ℕ × List ℕ)} (Some (plain, escape)) (split_at_first 92 text) → length escape < length text
split-shorter [] plain escape cut = absurd (let h = cut in cc)
split-shorter (b ∷ bs) plain escape cut = by (b == 92) (split_at_first 92 bs) (λ p e. split-shorter bs p e) cut
  where
    by : (slash : Bool) (rest : Option (List ℕ × List ℕ)) → ((p e : List ℕ) → ◌≡◌ {A = Option (List ℕ × List ℕ)} (Some (p, e)) rest → length e < length bs)
        → ◌≡◌ {A = Option (List ℕ × List ℕ)} (Some (plain, escape)) (cond slash (Some ([], bs)) (option_map (λ parts. (b ∷ parts.0, parts.1)) rest)) → length escape < length (b ∷ bs)
    by true rest shorter is = rw (second plain [] escape bs is) (omega arith)
    by false None shorter is = absurd (let h = is in cc)
    by false (Some parts) shorter is =
        let less = shorter parts.0 parts.1 refl in
        rw (second plain (b ∷ parts.0) escape parts.1 is) (omega arith)

pub split-lengths : (text plain escape : List ℕ) → ◌≡◌ {A = Option (List ℕ × List ℕ)} (Some (plain, escape)) (split_at_first 92 text)
    → length plain + 1 + length escape ≡ length text
split-lengths [] plain escape cut = absurd (let h = cut in cc)
split-lengths (b ∷ bs) plain escape cut = by (b == 92) (split_at_first 92 bs) (λ p e. split-lengths bs p e) cut
  where
    by : (slash : Bool) (rest : Option (List ℕ × List ℕ)) → ((p e : List ℕ) → ◌≡◌ {A = Option (List ℕ × List ℕ)} (Some (p, e)) rest → length p + 1 + length e ≡ length bs)
        → ◌≡◌ {A = Option (List ℕ × List ℕ)} (Some (plain, escape)) (cond slash (Some ([], bs)) (option_map (λ parts. (b ∷ parts.0, parts.1)) rest)) → length plain + 1 + length escape ≡ length (b ∷ bs)
    by true rest lengths is = rw (first plain [] escape bs is, second plain [] escape bs is) (omega arith)
    by false None lengths is = absurd (let h = is in cc)
    by false (Some parts) lengths is =
        let all = lengths parts.0 parts.1 refl in
        rw (first plain (b ∷ parts.0) escape parts.1 is, second plain (b ∷ parts.0) escape parts.1 is) (omega (arith, all))

digits-shorter : (byte : ℕ) (bs behind : List ℕ) → ◌≡◌ {A = Option (ℕ × List ℕ)} (Some (byte, behind)) (digits_of bs) → length behind < length bs
digits-shorter byte [] behind is = absurd (let h = is in cc)
digits-shorter byte (high ∷ []) behind is = absurd (let h = is in cc)
digits-shorter byte (high ∷ low ∷ bs) behind is = by (hex_byte high low) is
  where
    by : (o : Option ℕ) → ◌≡◌ {A = Option (ℕ × List ℕ)} (Some (byte, behind)) (option_map (λ b. (b, bs)) o) → length behind < length (high ∷ low ∷ bs)
    by None e = absurd (let h = e in cc)
    by (Some b) e = rw (second byte b behind bs e) (omega arith)

pub escape-shorter : (byte : ℕ) (bs behind : List ℕ) → ◌≡◌ {A = Option (ℕ × List ℕ)} (Some (byte, behind)) (escape_of bs) → length behind < length bs
escape-shorter byte [] behind is = absurd (let h = is in cc)
escape-shorter byte (b ∷ bs) behind is = by (b == 110) (b == 92) (b == 120) is
  where
    by : (feed slash digits : Bool) → ◌≡◌ {A = Option (ℕ × List ℕ)} (Some (byte, behind)) (cond feed (Some (10, bs)) (cond slash (Some (92, bs)) (cond digits (digits_of bs) None))) → length behind < length (b ∷ bs)
    by true slash digits e = rw (second byte 10 behind bs e) (omega arith)
    by false true digits e = rw (second byte 92 behind bs e) (omega arith)
    by false false true e = let less = digits-shorter byte bs behind e in omega arith
    by false false false e = absurd (let h = e in cc)

pub rest-shorter : (rest plain escape behind : List ℕ) (byte : ℕ) → ◌≡◌ {A = Option (List ℕ × List ℕ)} (Some (plain, escape)) (split_at_first 92 rest)
    → ◌≡◌ {A = Option (ℕ × List ℕ)} (Some (byte, behind)) (escape_of escape) → length behind < length rest
rest-shorter rest plain escape behind byte cut is = let one = split-shorter rest plain escape cut in let two = escape-shorter byte escape behind is in omega arith
