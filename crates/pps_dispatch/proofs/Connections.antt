-- Sessions and their connections.
use Rattle.std.proofs.Common.{◌≡◌, ℕ, zero, suc, ◌<◌, ◌==◌, Bool, true, List, [], ◌∷◌, length, map, sym, refl, ap, arith}
use Rattle.std.specs.Prelude.{◌||◌, slice_index_or}
use Rattle.std.specs.List.{list_any}
use Rattle.std.proofs.lemmas.Bool.Decides.{nat_tests}
use Rattle.pps_types.specs.Merge.{are_distinct}
use Rattle.pps_dispatch.specs.Sessions.{Conversation, is_known}

-- a test of what the elements are made to
pub list_any-map : {X Y : Type 0} (f : X → Y) (p : Y → Bool) (xs : List X) → list_any p (map f xs) ≡ list_any (λ x. p (f x)) xs
list_any-map f p [] = refl
list_any-map f p (x ∷ xs) = ap (λ b. p (f x) || b) (list_any-map f p xs)

-- a connection among those of the sessions
pub known_among : (sessions : List Conversation) (c : ℕ) → list_any (λ d. d == c) (map (λ (s : Conversation). s.connection) sessions) ≡ is_known sessions c
known_among sessions c = list_any-map (λ (s : Conversation). s.connection) (λ d. d == c) sessions

-- the session at a place has a known connection
pub known_at : (sessions : List Conversation) (k : ℕ) (d : Conversation) (c : ℕ) → k < length sessions → (slice_index_or sessions k d).connection ≡ c → is_known sessions c ≡ true
known_at [] k d c lt is = absurd (omega (arith, lt))
known_at (s ∷ ss) zero d c lt is = grind (arith, nat_tests, is)
known_at (s ∷ ss) (suc k) d c lt is = let rest = known_at ss k d c (omega (arith, lt)) is in grind (arith, nat_tests, rest)

-- where no connection stands twice, a place is that of its connection
pub same_place : (sessions : List Conversation) (j k : ℕ) (d e : Conversation) → are_distinct (map (λ (s : Conversation). s.connection) sessions) ≡ true
    → j < length sessions → k < length sessions → (slice_index_or sessions j d).connection ≡ (slice_index_or sessions k e).connection → j ≡ k
same_place [] j k d e distinct lt lt' is = absurd (omega (arith, lt))
same_place (s ∷ ss) zero zero d e distinct lt lt' is = refl
same_place (s ∷ ss) zero (suc k) d e distinct lt lt' is =
    let known = known_at ss k e s.connection (omega (arith, lt')) (sym is) in
    let among = known_among ss s.connection in
    absurd (grind (arith, nat_tests, known, among, distinct))
same_place (s ∷ ss) (suc j) zero d e distinct lt lt' is =
    let known = known_at ss j d s.connection (omega (arith, lt)) is in
    let among = known_among ss s.connection in
    absurd (grind (arith, nat_tests, known, among, distinct))
same_place (s ∷ ss) (suc j) (suc k) d e distinct lt lt' is =
    let others : are_distinct (map (λ (s : Conversation). s.connection) ss) ≡ true = grind (arith, nat_tests, distinct) in
    ap suc (same_place ss j k d e others (omega (arith, lt)) (omega (arith, lt')) is)
