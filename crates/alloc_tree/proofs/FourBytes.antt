-- The order of names, by four bytes at a time.
use Rattle.std.proofs.Common.{◌≡◌, ◌≢◌, ℕ, ◌+◌, ◌*◌, ◌<◌, ◌≤◌, ◌∷◌, length, get_or, drop, refl, ap, sym, ◌∙◌, arith}
use Rattle.std.proofs.lemmas.List.{drop_more}
use Rattle.std.specs.declared.cmp.Ordering.{Ordering}
use Rattle.std.specs.declared.cmp.Ordering.TheVariants.{Less, Equal, Greater}
use Rattle.std.specs.Ordering.{nat_cmp, ordering_then, MatchOrdering}
use Rattle.std.specs.Cmp.{nat_cmp_is}
use Rattle.std.proofs.lemmas.Cmp.{ranked}
use Rattle.std.specs.FinMap.{nat_cmp-IsAntisymmetric}
use Rattle.pps_types.specs.Names.{Name, name_cmp}
use Rattle.alloc_tree.specs.Entries.{four_bytes, AreFourBytes}

then_assoc : (a b c : Ordering) → ordering_then (ordering_then a b) c ≡ ordering_then a (ordering_then b c)
then_assoc Less b c = refl
then_assoc Equal b c = refl
then_assoc Greater b c = refl

-- a first digit decides, and else the second
digits : (a b x y : ℕ) → x < 256 → y < 256 → (o : Ordering) → MatchOrdering o (a < b) (a ≡ b) (b < a) → (p : Ordering) → MatchOrdering p (x < y) (x ≡ y) (y < x)
    → MatchOrdering (ordering_then o p) (a * 256 + x < b * 256 + y) (a * 256 + x ≡ b * 256 + y) (b * 256 + y < a * 256 + x)
digits a b x y small little Less h p k = omega (arith, h)
digits a b x y small little Greater h p k = omega (arith, h)
digits a b x y small little Equal h Less k = omega (arith, h, k)
digits a b x y small little Equal h Equal k = omega (arith, h, k)
digits a b x y small little Equal h Greater k = omega (arith, h, k)

told : (a b : ℕ) → MatchOrdering (nat_cmp a b) (a < b) (a ≡ b) (b < a)
told a b = ranked a b (nat_cmp a b) refl

two_digits : (a b x y : ℕ) → x < 256 → y < 256 → nat_cmp (a * 256 + x) (b * 256 + y) ≡ ordering_then (nat_cmp a b) (nat_cmp x y)
two_digits a b x y small little = sym (nat_cmp_is _ _ _ (digits a b x y small little (nat_cmp a b) (told a b) (nat_cmp x y) (told x y)))

drop_one : (xs : Name) (i next : ℕ) → next ≡ i + 1 → i < length xs → drop i xs ≡ get_or xs i 0 ∷ drop next xs
drop_one xs i next is within = rw is (drop_more xs i 0 within)

drop_four : (xs : Name) (i : ℕ) → i + 4 ≤ length xs
    → drop i xs ≡ get_or xs i 0 ∷ get_or xs (i + 1) 0 ∷ get_or xs (i + 2) 0 ∷ get_or xs (i + 3) 0 ∷ drop (i + 4) xs
drop_four xs i within =
    let d = drop_one xs (i + 3) (i + 4) (omega arith) (omega arith) in
    let c = drop_one xs (i + 2) (i + 3) (omega arith) (omega arith) in
    let b = drop_one xs (i + 1) (i + 2) (omega arith) (omega arith) in
    let a = drop_one xs i (i + 1) (omega arith) (omega arith) in
    cc

module _ (xs ys : Name) (i : ℕ) (within : i + 4 ≤ length xs) (inside : i + 4 ≤ length ys) (mine : AreFourBytes xs i) (others : AreFourBytes ys i) where
  horner : (n : Name) → four_bytes n i ≡ ((get_or n i 0 * 256 + get_or n (i + 1) 0) * 256 + get_or n (i + 2) 0) * 256 + get_or n (i + 3) 0
  horner n = omega arith

  numbers : nat_cmp (four_bytes xs i) (four_bytes ys i)
      ≡ ordering_then (ordering_then (ordering_then (nat_cmp (get_or xs i 0) (get_or ys i 0)) (nat_cmp (get_or xs (i + 1) 0) (get_or ys (i + 1) 0))) (nat_cmp (get_or xs (i + 2) 0) (get_or ys (i + 2) 0))) (nat_cmp (get_or xs (i + 3) 0) (get_or ys (i + 3) 0))
  numbers = rw (
    horner xs,
    horner ys,
    two_digits ((get_or xs i 0 * 256 + get_or xs (i + 1) 0) * 256 + get_or xs (i + 2) 0) ((get_or ys i 0 * 256 + get_or ys (i + 1) 0) * 256 + get_or ys (i + 2) 0) (get_or xs (i + 3) 0) (get_or ys (i + 3) 0) mine.fourth others.fourth,
    two_digits (get_or xs i 0 * 256 + get_or xs (i + 1) 0) (get_or ys i 0 * 256 + get_or ys (i + 1) 0) (get_or xs (i + 2) 0) (get_or ys (i + 2) 0) mine.third others.third,
    two_digits (get_or xs i 0) (get_or ys i 0) (get_or xs (i + 1) 0) (get_or ys (i + 1) 0) mine.second others.second,
  ) refl

  -- the numbers decide, and else what comes after the four bytes
  pub four_then : name_cmp (drop i xs) (drop i ys) ≡ ordering_then (nat_cmp (four_bytes xs i) (four_bytes ys i)) (name_cmp (drop (i + 4) xs) (drop (i + 4) ys))
  four_then = rw (drop_four xs i within, drop_four ys i inside, numbers, then_assoc, then_assoc, then_assoc) refl

  pub four_decide : (o : Ordering) → o ≡ nat_cmp (four_bytes xs i) (four_bytes ys i) → four_bytes xs i ≢ four_bytes ys i → o ≡ name_cmp (drop i xs) (drop i ys)
  four_decide Less e differ = sym (four_then ∙ ap (λ k. ordering_then k (name_cmp (drop (i + 4) xs) (drop (i + 4) ys))) (sym e))
  four_decide Greater e differ = sym (four_then ∙ ap (λ k. ordering_then k (name_cmp (drop (i + 4) xs) (drop (i + 4) ys))) (sym e))
  four_decide Equal e differ = absurd (differ (nat_cmp-IsAntisymmetric _ _ (sym e)))

  pub four_pass : four_bytes xs i ≡ four_bytes ys i → name_cmp (drop i xs) (drop i ys) ≡ name_cmp (drop (i + 4) xs) (drop (i + 4) ys)
  four_pass same = four_then ∙ ap (λ k. ordering_then k (name_cmp (drop (i + 4) xs) (drop (i + 4) ys))) (sym (nat_cmp_is (four_bytes xs i) (four_bytes ys i) Equal same))
