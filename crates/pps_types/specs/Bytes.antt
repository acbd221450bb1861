-- Words on bytes that the grammars of texts share. Own.
use Rattle.std.specs.Prelude.{ℕ, ◌+◌, ◌-◌, ◌*◌, List, [], ◌∷◌, Bool, true, false, not, ◌&&◌, ◌==◌, nat_le, nat_eq, if◌then◌else◌, Option, Some, None, option_map, Result, Ok, Err, length}
use Rattle.std.specs.Borrow.{Bor}
use Rattle.std.specs.List.{list_all}
use lib.Pointwise.{pointwise}

-- both are the same bytes
abbrev pub same : List ℕ → List ℕ → Bool
same xs ys = pointwise nat_eq xs ys

abbrev pub is_empty : {X : Type 0} → List X → Bool
is_empty [] = true
is_empty (x ∷ xs) = false

abbrev pub is_between : ℕ → ℕ → ℕ → Bool
is_between low high b = nat_le low b && nat_le b high

-- ---- numbers

abbrev pub is_digit : ℕ → Bool
is_digit b = is_between 48 57 b

-- at least one digit, and nothing else
abbrev pub is_digits : List ℕ → Bool
is_digits bs = not (is_empty bs) && list_all is_digit bs

-- the number that the digits of n and then these spell
abbrev pub number_from : ℕ → List ℕ → ℕ
number_from n [] = n
number_from n (d ∷ ds) = number_from (10 * n + (d - 48)) ds

abbrev pub starts_with : ℕ → List ℕ → Bool
starts_with c [] = false
starts_with c (b ∷ bs) = b == c

-- a number of at most that many digits and at most that size, without a leading zero; so it is at least 1
abbrev pub number_up_to : ℕ → ℕ → List ℕ → Option ℕ
number_up_to digits most bs =
    if is_digits bs && nat_le (length bs) digits && not (starts_with 48 bs) && nat_le (number_from 0 bs) most then Some (number_from 0 bs) else None

-- ---- parts

-- what follows a prefix
abbrev pub after_prefix : List ℕ → List ℕ → Option (List ℕ)
after_prefix [] bs = Some bs
after_prefix (p ∷ ps) [] = None
after_prefix (p ∷ ps) (b ∷ bs) = if p == b then after_prefix ps bs else None

-- what stands before the first c, and what stands behind it
abbrev pub split_at_first : ℕ → List ℕ → Option (List ℕ × List ℕ)
split_at_first c [] = None
split_at_first c (b ∷ bs) = if b == c then Some ([], bs) else option_map (λ parts. (b ∷ parts.0, parts.1)) (split_at_first c bs)

abbrev pub onto_first : ℕ → List (List ℕ) → List (List ℕ)
onto_first b [] = (b ∷ []) ∷ []
onto_first b (p ∷ ps) = (b ∷ p) ∷ ps

-- two parts that are lent
abbrev pub lent_parts : Option (Bor (List ℕ) × Bor (List ℕ)) → Option (List ℕ × List ℕ)
lent_parts lent = option_map (λ parts. (parts.0.now, parts.1.now)) lent

-- the pieces between the bytes c: one more than there are of these
abbrev pub pieces : ℕ → List ℕ → List (List ℕ)
pieces c [] = [] ∷ []
pieces c (b ∷ bs) = if b == c then [] ∷ pieces c bs else onto_first b (pieces c bs)

-- The pieces between the bytes c that are plain. A backslash makes the byte behind it another's;
-- escaped tells that the byte before was such a backslash.
abbrev pub plain_pieces : Bool → ℕ → List ℕ → List (List ℕ)
plain_pieces escaped c [] = [] ∷ []
plain_pieces escaped c (b ∷ bs) =
    if not escaped && b == c then [] ∷ plain_pieces false c bs else onto_first b (plain_pieces (not escaped && b == 92) c bs)

-- the bytes without the backslashes that stand for nothing but the byte behind them; none may be the last
abbrev pub unescaped : Bool → List ℕ → Option (List ℕ)
unescaped true [] = None
unescaped false [] = Some []
unescaped escaped (b ∷ bs) = if not escaped && b == 92 then unescaped true bs else option_map (λ rest. b ∷ rest) (unescaped false bs)

-- ---- steps that may fail

-- all of them, where each has one
abbrev pub all_some : {X Y : Type 0} → (X → Option Y) → List X → Option (List Y)
all_some f [] = Some []
all_some f (x ∷ xs) = both (f x) (all_some f xs)
  where
    both : {Y : Type 0} → Option Y → Option (List Y) → Option (List Y)
    both (Some y) (Some ys) = Some (y ∷ ys)
    both _ _ = None

abbrev pub result_map : {A B E : Type 0} → (A → B) → Result A E → Result B E
result_map f (Ok x) = Ok (f x)
result_map f (Err e) = Err e

-- the next step, where this one succeeded
infixl 10 ◌>>=◌
abbrev pub ◌>>=◌ : {A B E : Type 0} → Result A E → (A → Result B E) → Result B E
(Ok x) >>= f = f x
(Err e) >>= f = Err e
