-- Finding the first plain separator.
use Rattle.std.proofs.Common.{◌≡◌, ℕ, ◌+◌, ◌<◌, Bool, true, false, cond, List, [], ◌∷◌, ◌++◌, length, get_or, take, drop, refl, sym, ap, ◌∙◌, arith}
use Rattle.std.specs.Prelude.{◌==◌, not, ◌&&◌, nat_le, None}
use Rattle.std.proofs.lemmas.Bool.Decides.{nat_tests}
use Rattle.std.proofs.lemmas.List.{append_assoc, at_drop_more, take_more}
use Rattle.pps_types.specs.Bytes.{onto_first, plain_pieces}
use Rattle.pps_types.specs.Filter.{filter_text}

-- bytes in front of the first piece
abbrev pub in_front : List ℕ → List (List ℕ) → List (List ℕ)
in_front xs [] = xs ∷ []
in_front xs (p ∷ ps) = (xs ++ p) ∷ ps

in_front-onto_first : (xs : List ℕ) (b : ℕ) (ps : List (List ℕ)) → in_front xs (onto_first b ps) ≡ in_front (xs ++ b ∷ []) ps
in_front-onto_first xs b [] = refl
in_front-onto_first xs b (p ∷ ps) = ap (λ q. q ∷ ps) (sym (append_assoc xs (b ∷ []) p))

plain_pieces-on : (escaped : Bool) (c b : ℕ) (bs : List ℕ) → (not escaped && b == c) ≡ false → plain_pieces escaped c (b ∷ bs) ≡ onto_first b (plain_pieces (not escaped && b == 92) c bs)
plain_pieces-on escaped c b bs other = rw other

pub plain_pieces-some : (escaped : Bool) (c : ℕ) (bs : List ℕ) → 0 < length (plain_pieces escaped c bs)
plain_pieces-some escaped c [] = omega arith
plain_pieces-some escaped c (b ∷ bs) = at (not escaped && b == c) (plain_pieces (not escaped && b == 92) c bs)
  where
    onto : (ps : List (List ℕ)) → 0 < length (onto_first b ps)
    onto [] = omega arith
    onto (p ∷ ps) = omega arith

    at : (cut : Bool) (ps : List (List ℕ)) → 0 < length (cond cut ([] ∷ plain_pieces false c bs) (onto_first b ps))
    at true ps = omega arith
    at false ps = onto ps

pub in_front-nil : (ps : List (List ℕ)) → 0 < length ps → in_front [] ps ≡ ps
in_front-nil [] h = absurd (omega arith)
in_front-nil (p ∷ ps) h = refl

-- one byte on
pub pieces-step : (escaped next : Bool) (c : ℕ) (bs : List ℕ) (i : ℕ) → i < length bs → (not escaped && get_or bs i 0 == c) ≡ false → next ≡ (not escaped && get_or bs i 0 == 92) → in_front (take i bs) (plain_pieces escaped c (drop i bs)) ≡ in_front (take (i + 1) bs) (plain_pieces next c (drop (i + 1) bs))
pieces-step escaped next c bs i within other is =
    at_drop_more (λ rest. in_front (take i bs) (plain_pieces escaped c rest)) bs i 0 within
    ∙ ap (in_front (take i bs)) (plain_pieces-on escaped c (get_or bs i 0) (drop (i + 1) bs) other)
    ∙ in_front-onto_first (take i bs) (get_or bs i 0) (plain_pieces (not escaped && get_or bs i 0 == 92) c (drop (i + 1) bs))
    ∙ rw (← take_more bs i 0 within, is)

-- with a comma there are two pieces at least, and no filter
pub filter_text-comma : (piece rest bs : List ℕ) → piece ∷ plain_pieces false 44 rest ≡ plain_pieces false 44 bs → filter_text bs ≡ None
filter_text-comma piece rest bs pieces =
    let some = plain_pieces-some false 44 rest in
    let many : nat_le (length (plain_pieces false 44 bs)) 1 ≡ false = rw (← pieces) (grind (arith, nat_tests)) in
    rw many
