-- What a line makes of attributes: of the one that it names, of their number and of their printed length.
use Rattle.std.proofs.Common.{◌≡◌, ℕ, ◌+◌, ◌≤◌, Bool, true, false, cond, not, List, [], ◌∷◌, length, Some, None, refl, sym, ap, subst, ◌∙◌, arith, length-append}
use Rattle.std.specs.Prelude.{filter, fold, nat_lt, ◌||◌}
use Rattle.std.proofs.lemmas.Bool.{or_parts}
use Rattle.pps_types.specs.declared.line.Line.{Line}
use Rattle.pps_types.specs.declared.line.Line.TheVariants.{Set, Del}
use Rattle.pps_types.specs.Bytes.{same}
use Rattle.pps_types.specs.History.{Attribute, text_length, put, apply_line}
use Rattle.pps_types.specs.Text.{print_line, print_lines}
use Rattle.object_state.specs.Effect.{printed_length, of_named, length_at, AreDistinct, count_of, bytes_of}
use Rattle.std.proofs.lemmas.Bool.Decides.{nat_tests}
use Rattle.object_state.specs.Limits.{is_past_limits}
use Rattle.pps_types.proofs.SameBytes.{same-is, same-sym}
use Rattle.object_state.proofs.Printing.{text_length-cons, filter-bytes_le, filter-count_le}

-- the attributes without the one of that name
abbrev pub cut : List ℕ → List Attribute → List Attribute
cut name rest = filter (λ a. not (same a.name name)) rest

cut-cons : (name : List ℕ) (b : Attribute) (rest : List Attribute) → cut name (b ∷ rest) ≡ cond (same name b.name) (cut name rest) (b ∷ cut name rest)
cut-cons name b rest = ap (λ t. cond (not t) (b ∷ cut name rest) (cut name rest)) (same-sym b.name name) ∙ by (same name b.name)
  where
    by : (t : Bool) → cond (not t) (b ∷ cut name rest) (cut name rest) ≡ cond t (cut name rest) (b ∷ cut name rest)
    by true = refl
    by false = refl

-- ---- of each name

module _ {X : Type 0} (f : Attribute → X) where
  pub put-at : (a : Attribute) (q : List ℕ) (rest : List Attribute) → of_named f q (put rest a) ≡ cond (same a.name q) (Some (f a)) (of_named f q rest)
  put-at a q [] = ap (λ t. cond t (Some (f a)) None) (same-sym q a.name)
  put-at a q (b ∷ rest) = by (put-at a q rest) (same a.name b.name) refl (same a.name q) refl (same q b.name) refl
    where
      by : of_named f q (put rest a) ≡ cond (same a.name q) (Some (f a)) (of_named f q rest)
          → (s : Bool) → same a.name b.name ≡ s → (t : Bool) → same a.name q ≡ t → (u : Bool) → same q b.name ≡ u
          → of_named f q (cond s (a ∷ rest) (b ∷ put rest a)) ≡ cond t (Some (f a)) (cond u (Some (f b)) (of_named f q rest))
      by rec true s true t u e = ap (λ t. cond t (Some (f a)) (of_named f q rest)) (same-sym q a.name ∙ t)
      by rec true s false t true u = absurd (let g : same q b.name ≡ same a.name q = ap (same q) (sym (same-is a.name b.name s)) ∙ same-sym q a.name in cc)
      by rec true s false t false u = ap (λ t. cond t (Some (f a)) (of_named f q rest)) (same-sym q a.name ∙ t)
      by rec false s true t true u = absurd (let g : same a.name b.name ≡ same a.name q = ap (same a.name) (sym (same-is q b.name u)) in cc)
      by rec false s true t false u = ap (λ t. cond t (Some (f b)) (of_named f q (put rest a))) u ∙ rec ∙ ap (λ t. cond t (Some (f a)) (of_named f q rest)) t
      by rec false s false t true u = ap (λ t. cond t (Some (f b)) (of_named f q (put rest a))) u
      by rec false s false t false u = ap (λ t. cond t (Some (f b)) (of_named f q (put rest a))) u ∙ rec ∙ ap (λ t. cond t (Some (f a)) (of_named f q rest)) t

  pub cut-at : (name q : List ℕ) (rest : List Attribute) → of_named f q (cut name rest) ≡ cond (same name q) None (of_named f q rest)
  cut-at name q [] = by (same name q)
    where
      by : (t : Bool) → of_named f q [] ≡ cond t None (of_named f q [])
      by true = refl
      by false = refl
  cut-at name q (b ∷ rest) = ap (of_named f q) (cut-cons name b rest) ∙ by (cut-at name q rest) (same name b.name) refl (same name q) refl (same q b.name) refl
    where
      by : of_named f q (cut name rest) ≡ cond (same name q) None (of_named f q rest)
          → (s : Bool) → same name b.name ≡ s → (t : Bool) → same name q ≡ t → (u : Bool) → same q b.name ≡ u
          → of_named f q (cond s (cut name rest) (b ∷ cut name rest)) ≡ cond t None (cond u (Some (f b)) (of_named f q rest))
      by rec true s true t u e = rec ∙ ap (λ t. cond t None (of_named f q rest)) t
      by rec true s false t true u = absurd (let g : same name b.name ≡ same name q = ap (same name) (sym (same-is q b.name u)) in cc)
      by rec true s false t false u = rec ∙ ap (λ t. cond t None (of_named f q rest)) t
      by rec false s true t true u = absurd (let g : same name b.name ≡ same name q = ap (same name) (sym (same-is q b.name u)) in cc)
      by rec false s true t false u = ap (λ t. cond t (Some (f b)) (of_named f q (cut name rest))) u ∙ rec ∙ ap (λ t. cond t None (of_named f q rest)) t
      by rec false s false t true u = ap (λ t. cond t (Some (f b)) (of_named f q (cut name rest))) u
      by rec false s false t false u = ap (λ t. cond t (Some (f b)) (of_named f q (cut name rest))) u ∙ rec ∙ ap (λ t. cond t None (of_named f q rest)) t

-- ---- names stay apart

pub put-distinct : (a : Attribute) (rest : List Attribute) → AreDistinct rest → AreDistinct (put rest a)
put-distinct a [] apart = (refl, tt)
put-distinct a (b ∷ rest) apart = by (put-distinct a rest apart.1) (put-at printed_length a b.name rest) (same a.name b.name) refl
  where
    by : AreDistinct (put rest a) → length_at b.name (put rest a) ≡ cond (same a.name b.name) (Some (printed_length a)) (length_at b.name rest)
        → (s : Bool) → same a.name b.name ≡ s → AreDistinct (cond s (a ∷ rest) (b ∷ put rest a))
    by rec at true s = (ap (λ n. length_at n rest) (same-is a.name b.name s) ∙ apart.0, apart.1)
    by rec at false s = (at ∙ ap (λ t. cond t (Some (printed_length a)) (length_at b.name rest)) s ∙ apart.0, rec)

pub cut-distinct : (name : List ℕ) (rest : List Attribute) → AreDistinct rest → AreDistinct (cut name rest)
cut-distinct name [] apart = tt
cut-distinct name (b ∷ rest) apart = subst AreDistinct (sym (cut-cons name b rest)) (by (cut-distinct name rest apart.1) (cut-at printed_length name b.name rest) (same name b.name) refl)
  where
    by : AreDistinct (cut name rest) → length_at b.name (cut name rest) ≡ cond (same name b.name) None (length_at b.name rest)
        → (s : Bool) → same name b.name ≡ s → AreDistinct (cond s (cut name rest) (b ∷ cut name rest))
    by rec at true s = rec
    by rec at false s = (at ∙ ap (λ t. cond t None (length_at b.name rest)) s ∙ apart.0, rec)

-- ---- how many they are, and how long

pub put-bytes : (a : Attribute) (rest : List Attribute) → text_length (put rest a) + bytes_of (length_at a.name rest) ≡ text_length rest + printed_length a
put-bytes a [] = omega (arith, text_length-cons a [])
put-bytes a (b ∷ rest) = by (put-bytes a rest) (same a.name b.name)
  where
    by : text_length (put rest a) + bytes_of (length_at a.name rest) ≡ text_length rest + printed_length a
        → (s : Bool) → text_length (cond s (a ∷ rest) (b ∷ put rest a)) + bytes_of (cond s (Some (printed_length b)) (length_at a.name rest)) ≡ text_length (b ∷ rest) + printed_length a
    by rec true = omega (arith, text_length-cons a rest, text_length-cons b rest)
    by rec false = omega (arith, text_length-cons b (put rest a), text_length-cons b rest)

pub put-count : (a : Attribute) (rest : List Attribute) → length (put rest a) + count_of (length_at a.name rest) ≡ length rest + 1
put-count a [] = omega arith
put-count a (b ∷ rest) = by (put-count a rest) (same a.name b.name)
  where
    by : length (put rest a) + count_of (length_at a.name rest) ≡ length rest + 1
        → (s : Bool) → length (cond s (a ∷ rest) (b ∷ put rest a)) + count_of (cond s (Some (printed_length b)) (length_at a.name rest)) ≡ length (b ∷ rest) + 1
    by rec true = omega arith
    by rec false = omega arith

pub cut-bytes : (name : List ℕ) (rest : List Attribute) → AreDistinct rest → text_length (cut name rest) + bytes_of (length_at name rest) ≡ text_length rest
cut-bytes name [] apart = omega arith
cut-bytes name (b ∷ rest) apart = ap (λ (r : List Attribute). text_length r + bytes_of (length_at name (b ∷ rest))) (cut-cons name b rest) ∙ by (cut-bytes name rest apart.1) (same name b.name) refl
  where
    by : text_length (cut name rest) + bytes_of (length_at name rest) ≡ text_length rest
        → (s : Bool) → same name b.name ≡ s → text_length (cond s (cut name rest) (b ∷ cut name rest)) + bytes_of (cond s (Some (printed_length b)) (length_at name rest)) ≡ text_length (b ∷ rest)
    by rec true s =
        let none : bytes_of (length_at name rest) ≡ 0 = ap bytes_of (ap (λ n. length_at n rest) (same-is name b.name s) ∙ apart.0) in
        omega (arith, text_length-cons b rest)
    by rec false s = omega (arith, text_length-cons b (cut name rest), text_length-cons b rest)

pub cut-count : (name : List ℕ) (rest : List Attribute) → AreDistinct rest → length (cut name rest) + count_of (length_at name rest) ≡ length rest
cut-count name [] apart = omega arith
cut-count name (b ∷ rest) apart = ap (λ (r : List Attribute). length r + count_of (length_at name (b ∷ rest))) (cut-cons name b rest) ∙ by (cut-count name rest apart.1) (same name b.name) refl
  where
    by : length (cut name rest) + count_of (length_at name rest) ≡ length rest
        → (s : Bool) → same name b.name ≡ s → length (cond s (cut name rest) (b ∷ cut name rest)) + count_of (cond s (Some (printed_length b)) (length_at name rest)) ≡ length (b ∷ rest)
    by rec true s =
        let none : count_of (length_at name rest) ≡ 0 = ap count_of (ap (λ n. length_at n rest) (same-is name b.name s) ∙ apart.0) in
        omega arith
    by rec false s = omega arith

-- ---- lines make it no longer than they are

pub line-bytes_le : (rest : List Attribute) (line : Line) → text_length (apply_line rest line) ≤ text_length rest + length (print_line line)
line-bytes_le rest (Set name enc value n) = omega (arith, put-bytes (record { name = name; enc = enc; value = value; n = n }) rest)
line-bytes_le rest (Del name) = omega (arith, filter-bytes_le (λ a. not (same a.name name)) rest)

pub lines-bytes_le : (rest : List Attribute) (lines : List Line) → text_length (fold apply_line rest lines) ≤ text_length rest + length (print_lines lines)
lines-bytes_le rest [] = omega arith
lines-bytes_le rest (l ∷ ls) = omega (arith, lines-bytes_le (apply_line rest l) ls, line-bytes_le rest l, length-append (print_line l) (print_lines ls))

pub line-count_le : (rest : List Attribute) (line : Line) → length (apply_line rest line) ≤ length rest + 1
line-count_le rest (Set name enc value n) = omega (arith, put-count (record { name = name; enc = enc; value = value; n = n }) rest)
line-count_le rest (Del name) = omega (arith, filter-count_le (λ a. not (same a.name name)) rest)

pub lines-count_le : (rest : List Attribute) (lines : List Line) → length (fold apply_line rest lines) ≤ length rest + length lines
lines-count_le rest [] = omega arith
lines-count_le rest (l ∷ ls) = omega (arith, lines-count_le (apply_line rest l) ls, line-count_le rest l)

-- few and short enough
pub not_past : (rest : List Attribute) (count bytes : ℕ) → (nat_lt 1024 count || nat_lt 65536 bytes) ≡ false → length rest ≤ count → text_length rest ≤ bytes → false ≡ is_past_limits rest
not_past rest count bytes within few short = let parts = or_parts (nat_lt 1024 count) (nat_lt 65536 bytes) within in grind (arith, nat_tests, parts.0, parts.1)
