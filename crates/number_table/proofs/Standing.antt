-- Numbers that rise, and where a number stands among them.
use Rattle.std.proofs.Common.{ℕ, zero, suc, ◌+◌, ◌<◌, ◌≤◌, List, [], ◌∷◌, ◌++◌, length, get_or, arith}
use Rattle.number_table.specs.Index.{Rises, IsPlace}

-- numbers that rise from a higher one rise from a lower one
pub rises_lower : (low high : ℕ) (ns : List ℕ) (bound : ℕ) → low ≤ high → Rises high ns bound → Rises low ns bound
rises_lower low high [] bound h r = omega arith
rises_lower low high (n ∷ ns) bound h r = (omega (arith, r.0), r.1)

-- and stay below a higher bound
pub rises_below : (low : ℕ) (ns : List ℕ) (bound higher : ℕ) → Rises low ns bound → bound ≤ higher → Rises low ns higher
rises_below low [] bound higher r h = omega arith
rises_below low (n ∷ ns) bound higher r h = (r.0, rises_below (suc n) ns bound higher r.1 h)

-- the lowest is within the bound
pub rises_within : (low : ℕ) (ns : List ℕ) (bound : ℕ) → Rises low ns bound → low ≤ bound
rises_within low [] bound r = r
rises_within low (n ∷ ns) bound r = let e = rises_within (suc n) ns bound r.1 in let f = r.0 in omega arith

-- one more at the end
pub rises_push : (low : ℕ) (ns : List ℕ) (bound n : ℕ) → Rises low ns bound → bound ≤ n → Rises low (ns ++ n ∷ []) (n + 1)
rises_push low [] bound n r h = (omega arith, omega arith)
rises_push low (m ∷ ns) bound n r h = (r.0, rises_push (suc m) ns bound n r.1 h)

-- no number is below the lowest
rises_from : (low : ℕ) (ns : List ℕ) (bound k : ℕ) → Rises low ns bound → k < length ns → low ≤ get_or ns k 0
rises_from low [] bound k r h = absurd (omega arith)
rises_from low (n ∷ ns) bound zero r h = r.0
rises_from low (n ∷ ns) bound (suc k) r h = let e = rises_from (suc n) ns bound k r.1 (omega arith) in let f = r.0 in omega arith

-- a place by what stands before it, and from there on
pub is_place : (number place : ℕ) (ns : List ℕ) → place ≤ length ns → ((k : ℕ) → k < place → get_or ns k 0 < number) → ((k : ℕ) → place ≤ k → k < length ns → number ≤ get_or ns k 0) → IsPlace number place ns
is_place number zero [] h below from = tt
is_place number zero (n ∷ ns) h below from = from 0 (omega arith) (omega arith)
is_place number (suc place) [] h below from = absurd (omega arith)
is_place number (suc place) (n ∷ ns) h below from =
    (below 0 (omega arith), is_place number place ns (omega arith) (λ k l. below (suc k) (omega arith)) (λ k l m. from (suc k) (omega arith) (omega arith)))

-- where the number itself stands, its place is there
pub is_place_of : (low : ℕ) (ns : List ℕ) (bound place : ℕ) → Rises low ns bound → place < length ns → IsPlace (get_or ns place 0) place ns
is_place_of low [] bound place r h = absurd (omega arith)
is_place_of low (n ∷ ns) bound zero r h = omega arith
is_place_of low (n ∷ ns) bound (suc place) r h =
    (let e = rises_from (suc n) ns bound place r.1 (omega arith) in omega arith, is_place_of (suc n) ns bound place r.1 (omega arith))

-- no earlier number is higher
pub rises_before : (low : ℕ) (ns : List ℕ) (bound i j : ℕ) → Rises low ns bound → i ≤ j → j < length ns → get_or ns i 0 ≤ get_or ns j 0
rises_before low [] bound i j r h l = absurd (omega arith)
rises_before low (n ∷ ns) bound zero zero r h l = omega arith
rises_before low (n ∷ ns) bound (suc i) zero r h l = absurd (omega arith)
rises_before low (n ∷ ns) bound zero (suc j) r h l = let e = rises_from (suc n) ns bound j r.1 (omega arith) in omega arith
rises_before low (n ∷ ns) bound (suc i) (suc j) r h l = rises_before (suc n) ns bound i j r.1 (omega arith) (omega arith)
