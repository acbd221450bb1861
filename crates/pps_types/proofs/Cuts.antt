-- Prefixes, also of two parts, the first byte of a kind, and the pieces between such bytes.
use Rattle.std.proofs.Common.{◌≡◌, ℕ, zero, suc, ◌+◌, ◌<◌, ◌≤◌, Bool, true, false, eqb, cond, List, [], ◌∷◌, ◌++◌, length, take, drop, get_or, Option, Some, None, Bor, MatchOption, refl, sym, ap, ◌∙◌, add-one, arith}
use Rattle.std.specs.Prelude.{not, option_map, option_and_then, IfSome, ◌&&◌}
use Rattle.std.specs.List.{list_all}
use Rattle.std.specs.Option.{option_copied}
use Rattle.std.proofs.lemmas.Bool.{and_from, eqb-true, false_from_ne_true}
use Rattle.memchr.specs.Find.{IsFirstByte, is_byte}
use Rattle.std.proofs.lemmas.Bool.Decides.{nat_tests}
use Rattle.pps_types.specs.Bytes.{after_prefix, split_at_first, pieces, onto_first}
use lib.Pointwise.{pointwise}

turned : (a b : ℕ) → eqb a b ≡ eqb b a
turned a b = grind (arith, nat_tests)

-- a prefix, by one comparison
after_prefix-is : (ps bs : List ℕ) → after_prefix ps bs ≡ cond (pointwise eqb (take (length ps) bs) ps) (Some (drop (length ps) bs)) None
after_prefix-is [] bs = refl
after_prefix-is (p ∷ ps) [] = refl
after_prefix-is (p ∷ ps) (b ∷ bs) = rw (turned p b, after_prefix-is ps bs) (by (eqb b p) (pointwise eqb (take (length ps) bs) ps))
  where
    by : (x y : Bool) → cond x (cond y (Some (drop (length ps) bs)) None) None ≡ cond (x && y) (Some (drop (length ps) bs)) None
    by true y = refl
    by false y = refl

pub after_prefix-stripped : (ps bs : List ℕ) (r : Option (Bor (List ℕ))) → MatchOption r (pointwise eqb (take (length ps) bs) ps ≡ false) (λ x. (pointwise eqb (take (length ps) bs) ps ≡ true) × (x.now ≡ drop (length ps) bs) × (length x.now + length ps ≡ length bs)) → option_copied r ≡ after_prefix ps bs
after_prefix-stripped ps bs None h = sym (after_prefix-is ps bs ∙ rw h)
after_prefix-stripped ps bs (Some x) h = ap Some h.1 ∙ sym (after_prefix-is ps bs ∙ rw h.0)

-- one part after the other
pub after_prefix_joined : (ps qs bs : List ℕ) → after_prefix (ps ++ qs) bs ≡ option_and_then (after_prefix qs) (after_prefix ps bs)
after_prefix_joined [] qs bs = refl
after_prefix_joined (p ∷ ps) qs [] = refl
after_prefix_joined (p ∷ ps) qs (b ∷ bs) = by (after_prefix_joined ps qs bs) (eqb p b)
  where
    by : after_prefix (ps ++ qs) bs ≡ option_and_then (after_prefix qs) (after_prefix ps bs) → (x : Bool) → cond x (after_prefix (ps ++ qs) bs) None ≡ option_and_then (after_prefix qs) (cond x (after_prefix ps bs) None)
    by rest true = rest
    by rest false = refl

-- ---- the first byte of a kind

-- the byte stands nowhere
none-at : (c : ℕ) (xs : List ℕ) → ((k : ℕ) → 0 ≤ k → k < length xs → eqb (get_or xs k 0) c ≡ true → ⊥) → split_at_first c xs ≡ None
none-at c [] nowhere = refl
none-at c (x ∷ xs) nowhere =
    rw (
      false_from_ne_true (eqb x c) (nowhere 0 (omega arith) (omega arith)),
      none-at c xs (λ k low high. nowhere (suc k) (omega arith) (omega arith)),
    ) refl

-- the byte stands at k first
first-at : (c : ℕ) (xs : List ℕ) (k : ℕ) → k < length xs → ((j : ℕ) → 0 ≤ j → j < k → eqb (get_or xs j 0) c ≡ true → ⊥) → eqb (get_or xs k 0) c ≡ true → split_at_first c xs ≡ Some (take k xs, drop (suc k) xs)
first-at c [] k below before here = absurd (omega arith)
first-at c (x ∷ xs) zero below before here = rw here refl
first-at c (x ∷ xs) (suc k) below before here =
    rw (
      false_from_ne_true (eqb x c) (before 0 (omega arith) (omega arith)),
      first-at c xs k (omega arith) (λ j low high. before (suc j) (omega arith) (omega arith)) here,
    ) refl

pub split_at_first-is : (c : ℕ) (xs : List ℕ) (r : Option ℕ) → IsFirstByte (is_byte c) xs r → option_map (λ k. (take k xs, drop (k + 1) xs)) r ≡ split_at_first c xs
split_at_first-is c xs None nowhere = sym (none-at c xs nowhere)
split_at_first-is c xs (Some k) is = rw add-one (sym (first-at c xs k is.0.high is.0.before is.1))

-- the pieces, by the first of these bytes
abbrev pub pieces_of : ℕ → List ℕ → Option (List ℕ × List ℕ) → List (List ℕ)
pieces_of c xs None = xs ∷ []
pieces_of c xs (Some parts) = parts.0 ∷ pieces c parts.1

pub pieces-split : (c : ℕ) (xs : List ℕ) → pieces c xs ≡ pieces_of c xs (split_at_first c xs)
pieces-split c [] = refl
pieces-split c (x ∷ xs) = by (pieces-split c xs) (eqb x c)
  where
    onto : (o : Option (List ℕ × List ℕ)) → onto_first x (pieces_of c xs o) ≡ pieces_of c (x ∷ xs) (option_map (λ parts. (x ∷ parts.0, parts.1)) o)
    onto None = refl
    onto (Some parts) = refl

    by : pieces c xs ≡ pieces_of c xs (split_at_first c xs) → (b : Bool) → cond b ([] ∷ pieces c xs) (onto_first x (pieces c xs))
        ≡ pieces_of c (x ∷ xs) (cond b (Some ([], xs)) (option_map (λ parts. (x ∷ parts.0, parts.1)) (split_at_first c xs)))
    by rest true = refl
    by rest false = ap (onto_first x) rest ∙ onto (split_at_first c xs)

pub pieces-first : (c : ℕ) (xs a b : List ℕ) → Some (a, b) ≡ split_at_first c xs → a ∷ pieces c b ≡ pieces c xs
pieces-first c xs a b e = ap (pieces_of c xs) e ∙ sym (pieces-split c xs)

pub pieces-one : (c : ℕ) (xs : List ℕ) → None ≡ split_at_first c xs → xs ∷ [] ≡ pieces c xs
pieces-one c xs e = ap (pieces_of c xs) e ∙ sym (pieces-split c xs)

-- what stands behind such a byte is shorter
pub split_at_first-shorter : (c : ℕ) (xs : List ℕ) → IfSome {T = List ℕ × List ℕ} (split_at_first c xs) (λ parts. length parts.1 < length xs)
split_at_first-shorter c [] = tt
split_at_first-shorter c (x ∷ xs) = by (eqb x c) (split_at_first c xs) (split_at_first-shorter c xs)
  where
    by : (b : Bool) (o : Option (List ℕ × List ℕ)) → IfSome {T = List ℕ × List ℕ} o (λ parts. length parts.1 < length xs) → IfSome {T = List ℕ × List ℕ} (cond b (Some ([], xs)) (option_map (λ parts. (x ∷ parts.0, parts.1)) o)) (λ parts. length parts.1 < length (x ∷ xs))
    by true o h = omega arith
    by false None h = tt
    by false (Some parts) h = omega arith

pub length-behind : (c : ℕ) (xs a b : List ℕ) → Some (a, b) ≡ split_at_first c xs → length b < length xs
length-behind c xs a b e = rw (← e) at (split_at_first-shorter c xs)

-- what is cut at the first c is joined again
pub split-only : (c : ℕ) (bs front rest : List ℕ) → split_at_first c bs ≡ Some (front, rest) → (bs ≡ front ++ (c ∷ rest)) × (list_all (λ b. not (eqb b c)) front ≡ true)
split-only c [] front rest e = absurd cc
split-only c (b ∷ bs) front rest e = by (eqb b c) refl (split_at_first c bs) (λ f r. split-only c bs f r) e
  where
    by : (t : Bool) → eqb b c ≡ t → (o : Option (List ℕ × List ℕ)) → ((f r : List ℕ) → o ≡ Some (f, r) → (bs ≡ f ++ (c ∷ r)) × (list_all (λ b. not (eqb b c)) f ≡ true))
        → cond {A = Option (List ℕ × List ℕ)} t (Some ([], bs)) (option_map (λ parts. (b ∷ parts.0, parts.1)) o) ≡ Some (front, rest) → (b ∷ bs ≡ front ++ (c ∷ rest)) × (list_all (λ b. not (eqb b c)) front ≡ true)
    by true is o rec h =
        let parts : ◌≡◌ {A = List ℕ × List ℕ} ([], bs) (front, rest) = cc in
        let a : front ≡ [] = sym (ap (λ p. p.0) parts) in
        rw a (λ i. eqb-true b c is i ∷ ap (λ p. p.1) parts i, refl)
    by false is None rec h = absurd cc
    by false is (Some p) rec h =
        let parts : ◌≡◌ {A = List ℕ × List ℕ} (b ∷ p.0, p.1) (front, rest) = cc in
        let more = rec p.0 p.1 refl in
        let a : front ≡ b ∷ p.0 = sym (ap (λ p. p.0) parts) in
        rw a (ap (λ bs. b ∷ bs) more.0 ∙ ap (λ r. b ∷ (p.0 ++ (c ∷ r))) (ap (λ p. p.1) parts), and_from _ _ (ap not is) more.1)
