-- Numbers of two lists as one.
use Rattle.std.specs.Prelude.{ℕ, List, [], ◌∷◌, nat_lt, if◌then◌else◌}

-- A number with what is behind it in its list, and another list. `rest`: what is behind it, with a list.
abbrev pub united_from : ℕ → (List ℕ → List ℕ) → List ℕ → List ℕ
united_from x rest [] = x ∷ rest []
united_from x rest (y ∷ ys) = if nat_lt x y then x ∷ rest (y ∷ ys) else if nat_lt y x then y ∷ united_from x rest ys else y ∷ rest ys

-- Two lists of rising numbers as one, in rising number, with what is in both once.
abbrev pub united : List ℕ → List ℕ → List ℕ
united [] ys = ys
united (x ∷ xs) ys = united_from x (united xs) ys
